-- What a look of a call leaves, by the class of the call: a second look that finds nothing, and what is queued.
use Rattle.std.proofs.Common.{◌≡◌, ◌∙◌, ℕ, List, [], ◌∷◌, ◌++◌, drop, length, map, Bool, true, false, not, ◌||◌, Option, Some, None, if◌then◌else◌, refl, sym, ap, subst}
use Rattle.std.specs.List.{list_any}
use Rattle.rand_core.specs.Stream.{Stream}
use Rattle.dill_calls.specs.declared.call.Call.{Call}
use Rattle.dill_calls.specs.declared.call.Call.TheVariants as calls
use Rattle.dill_calls.specs.declared.word.Word.{Word}
use Rattle.dill_calls.specs.declared.word.Word.TheVariants as words
use Rattle.dill_calls.specs.CallTable.{word_of}
use Rattle.dill_base.specs.declared.errno.Front.{Front}
use Rattle.dill_base.specs.declared.errno.Front.TheVariants as front
use Rattle.dill_ws.specs.declared.side.Side.{Side}
use Rattle.dill_ws.specs.declared.request.Asked.{Asked}
use Rattle.dill_ws.specs.declared.request.Asked.TheVariants as asked_as
use Rattle.dill_ws.specs.Handshakes.{accept_text, server_head_of, client_front, server_front}
use Rattle.dill_stack.specs.declared.want.Want.{Want}
use Rattle.dill_stack.specs.declared.want.ReadOut.TheVariants as outs
use Rattle.dill_stack.specs.declared.parting.Parting.{Parting}
use Rattle.dill_stack.specs.declared.origin.Origin.TheVariants.{Plain, Pong}
use Rattle.dill_stack.specs.declared.task.Task.{Task}
use Rattle.dill_stack.specs.declared.task.Task.TheVariants.{Idle, Greets, Expects, Answers, Leaves}
use Rattle.dill_stack.specs.Held.{Held, Item, drop_unread}
use Rattle.dill_stack.specs.Layers.{WsLayer}
use Rattle.dill_stack.specs.Sending.{is_sent, is_pong, item_of}
use Rattle.dill_stack.specs.Read.{Outcome}
use Rattle.dill_stack.specs.Receiving.{Looked, read, read_of, looked_over, breaks, with_pongs_of, ws_of, answers_pings, ponged, with_pong, pong_of, is_waiting_pong, replaced}
use Rattle.dill_stack.specs.Dropping.{dropped, is_given}
use Rattle.dill_stack.specs.Parting.{detach_finish, left_over}
use Rattle.dill_stack.specs.Greeting.{Heard, greeted, heard_by, by_server, by_client, met_after}
use Rattle.dill_stack.specs.Again.{LooksAgain}
use Rattle.dill_base.specs.Maps.{if_some}
use Rattle.dill_rules.specs.Directions.{is_handshake, asked, parting_of}
use Rattle.dill_rules.specs.LinkAnswers.{heard_as, still, look_by, look_of, is_tcp_close}

-- ---- what a look answers doesn't hang on the random numbers

said_left : (l : Looked) → (left_over l).said ≡ l.said
said_left l = at (is_given l.said)
  where
    at : (b : Bool) → (if b then (let m : Looked = record l { stack = record l.stack { task = Idle } } in m) else l).said ≡ l.said
    at true = refl
    at false = refl

said_finish : (u v : Stream) (s : Held) → (detach_finish u s).said ≡ (detach_finish v s).said
unfolding detach_finish
said_finish u v s = at (is_sent s)
  where
    one : Stream → Looked
    one x = looked_over (dropped s.layers s.unread s.receiving.done) x s

    at : (b : Bool) → (if b then left_over (one u) else still u s).said ≡ (if b then left_over (one v) else still v s).said
    at true = said_left (one u) ∙ sym (said_left (one v))
    at false = refl

said_read : (want : Want) (u v : Stream) (s : Held) → (read want u s).said ≡ (read want v s).said
unfolding read
said_read want u v s = refl

said_by : (call : Call) (u v : Stream) (s : Held) → (look_by call u s).said ≡ (look_by call v s).said
said_by call u v s = at (is_handshake (word_of call)) (is_tcp_close (word_of call))
  where
    at : (a b : Bool) → (if a then heard_as u (greeted s) else (if b then still u (drop_unread s) else still u s)).said ≡ (if a then heard_as v (greeted s) else (if b then still v (drop_unread s) else still v s)).said
    at true b = refl
    at false true = refl
    at false false = refl

pub said_blind : (call : Call) (u v : Stream) (s : Held) → (look_of call u s).said ≡ (look_of call v s).said
said_blind call u v s = at (asked call) (parting_of call)
  where
    at : (o : Option Want) (p : Option Parting) → (if_some o (if_some p (look_by call u s) (λ parting. detach_finish u s)) (λ want. read want u s)).said ≡ (if_some o (if_some p (look_by call v s) (λ parting. detach_finish v s)) (λ want. read want v s)).said
    at None None = said_by call u v s
    at None (Some parting) = said_finish u v s
    at (Some want) p = said_read want u v s

-- ---- a second look

none_left : (xs : List ℕ) → drop (length xs) xs ≡ []
none_left [] = refl
none_left (x ∷ xs) = none_left xs

-- a look that found nothing, and one behind it
abbrev Still : (Stream → Held → Looked) → Stream → Stream → Held → Type 0
Still f u v s = (f u s).said ≡ outs.Need → f v (f u s).stack ≡ still v (f u s).stack

-- all that is unread is dropped once
dropped_all : (xs : List ℕ) → drop (length (drop (length xs) xs)) (drop (length xs) xs) ≡ drop (length xs) xs
dropped_all xs = ap (λ ys. drop (length ys) ys) (none_left xs) ∙ sym (none_left xs)

pub looks_twice : LooksAgain → (call : Call) (u v : Stream) (s : Held) → Still (look_of call) u v s
looks_twice laws call u v s = at (asked call) (parting_of call)
  where
    by : (a b : Bool) → Still (λ x t. if a then heard_as x (greeted t) else (if b then still x (drop_unread t) else still x t)) u v s
    by true b e = ap (heard_as v) (laws.greets s e)
    by false true e = ap (λ xs. still v (record s { unread = xs })) (dropped_all s.unread)
    by false false e = refl

    at : (o : Option Want) (p : Option Parting) → Still (λ x t. if_some o (if_some p (look_by call x t) (λ parting. detach_finish x t)) (λ want. read want x t)) u v s
    at None None e = by (is_handshake (word_of call)) (is_tcp_close (word_of call)) e
    at None (Some parting) e = laws.finishes u v s e
    at (Some want) p e = laws.reads want u v s e

-- `tcp_close` answers nothing by its look
pub close_looks : (call : Call) (u : Stream) (s : Held) → is_tcp_close (word_of call) ≡ true → (look_of call u s).said ≡ outs.Need
close_looks (calls.TcpClose number deadline) u s e = refl
close_looks (calls.Pass word fault) u s e = by word e
  where
    by : (word : Word) → is_tcp_close word ≡ true → (look_of (calls.Pass word fault) u s).said ≡ outs.Need
    by words.TcpClose f = refl
    by _ f = cc
close_looks _ u s e = cc

-- ---- what a look that found nothing queues

abbrev unsent : List Item → Bool
unsent queue = list_any (λ item. not (is_pong item)) queue

-- the directions are as they were, and a send that hasn't gone hasn't
pub record KeepsWay (s t : Held) : Type 0 where
  pub receiving : t.receiving ≡ s.receiving
  pub sending : t.sending ≡ s.sending
  pub unsent : is_sent s ≡ false → is_sent t ≡ false

same_way : (s : Held) → KeepsWay s s
same_way s = record { receiving = refl; sending = refl; unsent = λ e. e }

or_more : (a b : Bool) → b ≡ true → (a || b) ≡ true
or_more true b e = refl
or_more false b e = e

unsent_more : (q r : List Item) → unsent q ≡ true → unsent (q ++ r) ≡ true
unsent_more [] r e = cc
unsent_more (x ∷ q) r e = at (not (is_pong x)) e (unsent_more q r)
  where
    at : (b : Bool) → (b || unsent q) ≡ true → (unsent q ≡ true → unsent (q ++ r) ≡ true) → (b || unsent (q ++ r)) ≡ true
    at true f g = refl
    at false f g = g f

unsent_replaced : (w : List ℕ) (q : List Item) → unsent (map (replaced w) q) ≡ unsent q
unsent_replaced w [] = refl
unsent_replaced w (x ∷ q) = at (is_waiting_pong x) (unsent_replaced w q)
  where
    at : (b : Bool) → unsent (map (replaced w) q) ≡ unsent q → (not (is_pong (if b then record x { bytes = w } else x)) || unsent (map (replaced w) q)) ≡ (not (is_pong x) || unsent q)
    at true e = ap (λ t. not (is_pong x) || t) e
    at false e = ap (λ t. not (is_pong x) || t) e

unsent_pong : (w : List ℕ) (q : List Item) → unsent q ≡ true → unsent (with_pong w q) ≡ true
unsent_pong w q e = at (list_any is_waiting_pong q)
  where
    at : (b : Bool) → unsent (if b then map (replaced w) q else q ++ record { bytes = w; gone = 0; origin = Pong } ∷ []) ≡ true
    at true = unsent_replaced w q ∙ e
    at false = unsent_more q (record { bytes = w; gone = 0; origin = Pong } ∷ []) e

unsent_ponged : (side : Side) (pings : List (List ℕ)) (now : List Item × Stream) → unsent now.0 ≡ true → unsent (ponged side pings now).0 ≡ true
unsent_ponged side [] now e = e
unsent_ponged side (payload ∷ pings) now e = unsent_ponged side pings (with_pong (pong_of side payload now.1).0 now.0, (pong_of side payload now.1).1) (unsent_pong (pong_of side payload now.1).0 now.0 e)

not_false : (b : Bool) → not b ≡ false → b ≡ true
not_false true e = refl
not_false false e = cc

unsent_false : (b : Bool) → b ≡ true → not b ≡ false
unsent_false true e = refl
unsent_false false e = cc

pongs_keep : (o : Option WsLayer) (pings : List (List ℕ)) (words : Stream) (s : Held) → KeepsWay s (with_pongs_of o pings words s).0
pongs_keep None pings words s = same_way s
pongs_keep (Some ws) pings words s = at (answers_pings ws s)
  where
    at : (b : Bool) → KeepsWay s (let now : Held × Stream = if b then (record s { queue = (ponged ws.side pings (s.queue, words)).0 }, (ponged ws.side pings (s.queue, words)).1) else (s, words) in now.0)
    at true = record { receiving = refl; sending = refl; unsent = λ e. unsent_false (unsent (ponged ws.side pings (s.queue, words)).0) (unsent_ponged ws.side pings (s.queue, words) (not_false (unsent s.queue) e)) }
    at false = same_way s

over_keeps : (o : Outcome) (words : Stream) (s : Held) → KeepsWay s (looked_over o words s).stack
over_keeps o words s =
    let k = pongs_keep (ws_of s.layers) o.pings words (record s { layers = o.layers; unread = drop o.used s.unread }) in
    record { receiving = k.receiving; sending = k.sending; unsent = k.unsent }

read_keeps : (want : Want) (u : Stream) (s : Held) → (read want u s).said ≡ outs.Need → KeepsWay s (read want u s).stack
unfolding read
read_keeps want u s e =
    let l = looked_over (read_of want s) u s in
    subst (λ (m : Looked). KeepsWay s m.stack) (sym (ap (λ said. record l { stack = if breaks said then record l.stack { receiving = record l.stack.receiving { broken = true } } else l.stack }) e)) (over_keeps (read_of want s) u s)

finish_keeps : (u : Stream) (s : Held) → KeepsWay s (detach_finish u s).stack
unfolding detach_finish
finish_keeps u s = at (is_sent s)
  where
    l : Looked
    l = looked_over (dropped s.layers s.unread s.receiving.done) u s

    left : (b : Bool) → KeepsWay s (let m : Looked = if b then record l { stack = record l.stack { task = Idle } } else l in m.stack)
    left true = let k = over_keeps (dropped s.layers s.unread s.receiving.done) u s in record { receiving = k.receiving; sending = k.sending; unsent = k.unsent }
    left false = over_keeps (dropped s.layers s.unread s.receiving.done) u s

    at : (b : Bool) → KeepsWay s (if b then left_over l else still u s).stack
    at true = left (is_given l.said)
    at false = same_way s

greets_keep : (s : Held) → KeepsWay s (greeted s).stack
unfolding greeted
greets_keep s = at s.task
  where
    server : (f : Front) → KeepsWay s (by_server f s).stack
    server (front.Whole from to used) = record { receiving = refl; sending = refl; unsent = λ e. e }
    server front.Need = same_way s
    server (front.Fault e) = same_way s

    client : (f : Asked) → KeepsWay s (by_client f s).stack
    client (asked_as.Whole key used) = record { receiving = refl; sending = refl; unsent = λ e. unsent_false (unsent (s.queue ++ item_of Plain (server_head_of (accept_text key)))) (unsent_more s.queue (item_of Plain (server_head_of (accept_text key))) (not_false (unsent s.queue) e)) }
    client asked_as.Need = same_way s
    client (asked_as.Fault e) = same_way s

    sent : (b : Bool) (h : Heard) → KeepsWay s h.stack → KeepsWay s (if b then h else (let n : Heard = record { stack = s; said = outs.Need } in n)).stack
    sent true h k = k
    sent false h k = same_way s

    at : (t : Task) → KeepsWay s (heard_by t s).stack
    at Idle = same_way s
    at (Greets accept) = sent (is_sent s) (by_server (server_front accept s.unread) s) (server (server_front accept s.unread))
    at Expects = client (client_front s.unread)
    at Answers = sent (is_sent s) (met_after 0 s) (record { receiving = refl; sending = refl; unsent = λ e. e })
    at Leaves = same_way s

pub look_keeps : (call : Call) (u : Stream) (s : Held) → (look_of call u s).said ≡ outs.Need → KeepsWay s (look_of call u s).stack
look_keeps call u s e = at (asked call) (parting_of call) e
  where
    by : (a b : Bool) → KeepsWay s (if a then heard_as u (greeted s) else (if b then still u (drop_unread s) else still u s)).stack
    by true b = greets_keep s
    by false true = record { receiving = refl; sending = refl; unsent = λ e. e }
    by false false = same_way s

    at : (o : Option Want) (p : Option Parting) → (if_some o (if_some p (look_by call u s) (λ parting. detach_finish u s)) (λ want. read want u s)).said ≡ outs.Need → KeepsWay s (if_some o (if_some p (look_by call u s) (λ parting. detach_finish u s)) (λ want. read want u s)).stack
    at None None f = by (is_handshake (word_of call)) (is_tcp_close (word_of call))
    at None (Some parting) f = finish_keeps u s
    at (Some want) p f = read_keeps want u s f
