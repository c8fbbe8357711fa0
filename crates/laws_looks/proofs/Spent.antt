-- A stack at which a look finds nothing, and that stays so when a send is given up.
use Rattle.std.proofs.Common.{◌≡◌, ◌∙◌, ℕ, ◌-◌, ◌==◌, List, [], ◌∷◌, take, drop, length, Bool, true, false, ◌&&◌, Option, Some, None, if◌then◌else◌, nat_lt, refl, sym, ap, subst}
use Rattle.std.specs.Prelude.{filter, Result, Ok, Err}
use Rattle.rand_core.specs.Stream.{Stream}
use Rattle.dill_base.specs.declared.errno.Errno.{Errno}
use Rattle.dill_base.specs.declared.errno.Errno.TheVariants.{Epipe}
use Rattle.dill_base.specs.declared.errno.Front.{Front}
use Rattle.dill_base.specs.declared.errno.Front.TheVariants as front
use Rattle.dill_calls.specs.declared.answer.Answer.{Answer}
use Rattle.dill_calls.specs.declared.answer.Answer.TheVariants.{Bytes}
use Rattle.dill_calls.specs.declared.call.Call.{Call}
use Rattle.dill_calls.specs.declared.call.Call.TheVariants as calls
use Rattle.dill_calls.specs.declared.word.Word.{Word}
use Rattle.dill_calls.specs.CallTable.{word_of, named_by}
use Rattle.dill_http.specs.Lines.{crlf, front_of_line}
use Rattle.dill_base.specs.Maps.{if_some}
use Rattle.dill_stack.specs.declared.want.Want.{Want}
use Rattle.dill_stack.specs.declared.want.Want.TheVariants as wants
use Rattle.dill_stack.specs.declared.want.ReadOut.{ReadOut}
use Rattle.dill_stack.specs.declared.want.ReadOut.TheVariants as outs
use Rattle.dill_stack.specs.declared.placed.Place.{Place}
use Rattle.dill_stack.specs.declared.placed.Place.TheVariants.{AmongFields, BehindEmpty}
use Rattle.dill_stack.specs.declared.placed.TermLayer.{TermLayer}
use Rattle.dill_stack.specs.declared.placed.HttpLayer.{HttpLayer}
use Rattle.dill_stack.specs.Layers.{Placed, Term, Http, is_behind}
use Rattle.dill_stack.specs.declared.direction.Direction.{Direction}
use Rattle.dill_stack.specs.declared.origin.Origin.{Origin}
use Rattle.dill_stack.specs.declared.origin.Origin.TheVariants.{Plain, Ending, Line, Pong}
use Rattle.dill_stack.specs.Held.{Held, Item, broken_off}
use Rattle.dill_stack.specs.Composed.{composed, and_then}
use Rattle.dill_stack.specs.Refusals.{send_fault, line_fault, done_fault}
use Rattle.dill_stack.specs.Sending.{is_pong, queued, unless, frame, at_place, with_line, line, with_end, done, pending_item, undone, taken_back, reopened, given_up, withdraw}
use Rattle.dill_stack.specs.Read.{Outcome, outcome, read_exact, is_terminal, over_term, read_message, ends_fields, line_answer, received, given_line, by_line, read_line, read_list}
use Rattle.dill_stack.specs.Receiving.{Looked, ws_of, looked_over, settled, read_of, read}
use Rattle.dill_stack.specs.Again.{LooksAgain}
use Rattle.dill_stack.proofs.Again.{pongs_queue, looked_still, need_unbroken, list_again, line_again, terminal_said}
use Rattle.dill_rules.specs.Directions.{is_receive, asked, parting_of}
use Rattle.dill_rules.specs.Linking.{with_random}
use Rattle.dill_rules.specs.LinkAnswers.{still, look_by, look_of, is_tcp_done}
use Rattle.dill_rules.specs.Giving.{is_given_up, is_fault, after_send}
use Rattle.dill_rules.specs.Giving as giving
use Rattle.dill_stack.specs.Parting.{detach_finish}
use Rattle.laws_looks.specs.Calm.{Spent}
use Rattle.laws_looks.proofs.Twice.{looks_twice}

read_spends : (want : Want) (u : Stream) (s : Held) → (read want u s).said ≡ outs.Need → read_of want (read want u s).stack ≡ outcome 0 (read want u s).stack.layers outs.Need
unfolding read
read_spends want u s e =
    let o = read_of want s in
    let l = looked_over o u s in
    let t = l.stack in
    let q = pongs_queue (ws_of s.layers) o.pings u (record s { layers = o.layers; unread = drop o.used s.unread }) in
    let first : read_list o.layers (drop o.used s.unread) s.receiving.done want ≡ outcome 0 o.layers outs.Need = list_again want s.layers s.unread s.receiving.done e in
    let second : read_of want t ≡ outcome 0 t.layers outs.Need =
    ap (λ l. read_list l t.unread t.receiving.done want) q.layers ∙ ap (λ x. read_list o.layers x t.receiving.done want) q.unread ∙ ap (λ (d : Direction). read_list o.layers (drop o.used s.unread) d.done want) q.receiving ∙ first ∙ ap (λ l. outcome 0 l outs.Need) (sym q.layers) in
    subst (λ (x : Looked). read_of want x.stack ≡ outcome 0 x.stack.layers outs.Need) (sym (need_unbroken l e)) second

pub look_spends : LooksAgain → (call : Call) (u : Stream) (s : Held) → (look_of call u s).said ≡ outs.Need → Spent call (look_of call u s).stack
look_spends laws call u s e = record {
  look = λ v. looks_twice laws call u v s e;
  read = λ want f.
      let it : look_of call u s ≡ read want u s = ap (λ o. if_some o (if_some (parting_of call) (look_by call u s) (λ parting. detach_finish u s)) (λ w. read w u s)) f in
      subst (λ (x : Looked). read_of want x.stack ≡ outcome 0 x.stack.layers outs.Need) (sym it) (read_spends want u s (ap (λ (x : Looked). x.said) (sym it) ∙ e));
}

-- ---- the same receiving half

-- layers that differ in what was sent over the top one alone
data Half : List Placed → List Placed → Type 0 where
  as_was : (xs : List Placed) → Half xs xs
  ended_at : (term : TermLayer) (b : Bool) (below : List Placed) → Half (Term term ∷ below) (Term (record term { done = b }) ∷ below)
  stands_at : (http : HttpLayer) (place : Place) (below : List Placed) → Half (Http http ∷ below) (Http (record http { sending = place }) ∷ below)

-- two stacks of which a receive reads the same
pub record SameHalf (s t : Held) : Type 0 where
  layers : Half s.layers t.layers
  unread : t.unread ≡ s.unread
  ended : t.receiving.done ≡ s.receiving.done

exact_else : (layers more : List Placed) (u : List ℕ) (ended : Bool) (n : ℕ) → read_exact layers u ended n ≡ outcome 0 layers outs.Need → read_exact more u ended n ≡ outcome 0 more outs.Need
exact_else layers more u ended n e = at (nat_lt (length u) n) ended (ap (λ (o : Outcome). o.said) e)
  where
    at : (b c : Bool) → (if b then outcome 0 layers (if c then outs.Fault Epipe else outs.Need) else outcome n layers (outs.Given (Bytes (take n u)))).said ≡ outs.Need → (if b then outcome 0 more (if c then outs.Fault Epipe else outs.Need) else outcome n more (outs.Given (Bytes (take n u)))) ≡ outcome 0 more outs.Need
    at true true f = cc
    at true false f = refl
    at false c f = cc

abbrev less : List Placed → List Placed
less [] = []
less (x ∷ xs) = xs

term_else : (term : TermLayer) (b : Bool) (m : Outcome) (below : List Placed) → over_term term m ≡ outcome 0 (Term term ∷ below) outs.Need → over_term (record term { done = b }) m ≡ outcome 0 (Term (record term { done = b }) ∷ below) outs.Need
term_else term b m below e =
    let t = terminal_said term m (is_terminal term m.said) refl (ap (λ (o : Outcome). o.said) e) in
    let it : m ≡ outcome 0 below outs.Need = ap (λ (o : Outcome). record o { layers = less o.layers }) (sym t.0 ∙ e) in
    ap (over_term (record term { done = b })) it

line_said : (want : Want) (http : HttpLayer) (place : Place) (below : List Placed) (u : List ℕ) (ended : Bool) → (read_line want (Http (record http { sending = place }) ∷ below) u ended).said ≡ (read_line want (Http http ∷ below) u ended).said
line_said want http place below u ended = at (is_behind http.receiving)
  where
    given : (used : ℕ) (o : Option Answer) → (given_line (record http { sending = place }) below used o).said ≡ (given_line http below used o).said
    given used None = refl
    given used (Some a) = refl

    ends : (b : Bool) (used : ℕ) (o : Option Answer) → (if b then outcome used (received BehindEmpty (record http { sending = place }) ∷ below) (outs.Fault Epipe) else given_line (record http { sending = place }) below used o).said ≡ (if b then outcome used (received BehindEmpty http ∷ below) (outs.Fault Epipe) else given_line http below used o).said
    ends true used o = refl
    ends false used o = given used o

    by : (f : Front) → (by_line want (record http { sending = place }) below u ended f).said ≡ (by_line want http below u ended f).said
    by (front.Whole from to used) = ends (ends_fields want (take (to - from) (drop from u))) used (line_answer want (take (to - from) (drop from u)))
    by front.Need = refl
    by (front.Fault e) = refl

    at : (b : Bool) → (if b then outcome 0 (Http (record http { sending = place }) ∷ below) (outs.Fault Epipe) else by_line want (record http { sending = place }) below u ended (front_of_line u)).said ≡ (if b then outcome 0 (Http http ∷ below) (outs.Fault Epipe) else by_line want http below u ended (front_of_line u)).said
    at true = refl
    at false = by (front_of_line u)

line_else : (want : Want) (http : HttpLayer) (place : Place) (below : List Placed) (u : List ℕ) (ended : Bool) → read_line want (Http http ∷ below) u ended ≡ outcome 0 (Http http ∷ below) outs.Need → read_line want (Http (record http { sending = place }) ∷ below) u ended ≡ outcome 0 (Http (record http { sending = place }) ∷ below) outs.Need
line_else want http place below u ended e = line_again want (Http (record http { sending = place }) ∷ below) u ended (line_said want http place below u ended ∙ ap (λ (o : Outcome). o.said) e)

half_reads : (want : Want) {xs ys : List Placed} → Half xs ys → (u : List ℕ) (ended : Bool) → read_list xs u ended want ≡ outcome 0 xs outs.Need → read_list ys u ended want ≡ outcome 0 ys outs.Need
unfolding read_list
half_reads want (as_was xs) u ended e = e
half_reads (wants.Exact n) (ended_at term b below) u ended e = exact_else (Term term ∷ below) (Term (record term { done = b }) ∷ below) u ended n e
half_reads (wants.Message limit) (ended_at term b below) u ended e = at term.met e
  where
    m : Outcome
    m = read_message below u ended limit

    at : (c : Bool) → (if c then outcome 0 (Term term ∷ below) (outs.Fault Epipe) else over_term term m) ≡ outcome 0 (Term term ∷ below) outs.Need
        → (if c then outcome 0 (Term (record term { done = b }) ∷ below) (outs.Fault Epipe) else over_term (record term { done = b }) m) ≡ outcome 0 (Term (record term { done = b }) ∷ below) outs.Need
    at true f = let bad : ◌≡◌ {A = ReadOut} (outs.Fault Epipe) outs.Need = ap (λ (o : Outcome). o.said) f in cc
    at false f = term_else term b m below f
half_reads wants.Request (ended_at term b below) u ended e = refl
half_reads wants.Status (ended_at term b below) u ended e = refl
half_reads wants.Field (ended_at term b below) u ended e = refl
half_reads (wants.Exact n) (stands_at http place below) u ended e = exact_else (Http http ∷ below) (Http (record http { sending = place }) ∷ below) u ended n e
half_reads (wants.Message limit) (stands_at http place below) u ended e = refl
half_reads wants.Request (stands_at http place below) u ended e = line_else wants.Request http place below u ended e
half_reads wants.Status (stands_at http place below) u ended e = line_else wants.Status http place below u ended e
half_reads wants.Field (stands_at http place below) u ended e = line_else wants.Field http place below u ended e

-- a receive finds nothing
abbrev Idles : Want → Held → Type 0
Idles want s = read_of want s ≡ outcome 0 s.layers outs.Need

half_idles : (want : Want) (s t : Held) → SameHalf s t → Idles want s → Idles want t
half_idles want s t h e = half_reads want h.layers t.unread t.receiving.done (ap (λ u. read_list s.layers u t.receiving.done want) h.unread ∙ ap (λ b. read_list s.layers s.unread b want) h.ended ∙ e)

idle_reads : (want : Want) (u : Stream) (s : Held) → Idles want s → read want u s ≡ still u s
unfolding read
idle_reads want u s e = ap settled (looked_still (read_of want s) u s e)

-- so does its look
pub half_spent : (call : Call) (want : Want) (s t : Held) → asked call ≡ Some want → SameHalf s t → Spent call s → Spent call t
half_spent call want s t e h p = record {
  look = λ u. ap (λ o. if_some o (if_some (parting_of call) (look_by call u t) (λ parting. detach_finish u t)) (λ want. read want u t)) e ∙ idle_reads want u t (half_idles want s t h (p.read want e));
  read = λ more f. half_idles more s t h (p.read more f);
}

-- what a receive asks for
pub asked_is : (call : Call) (n : ℕ) → named_by call ≡ Some n → is_receive (word_of call) ≡ true → (want : Want) × (asked call ≡ Some want)
asked_is (calls.Brecv number size deadline) n e f = (wants.Exact size, refl)
asked_is (calls.Mrecv number limit deadline) n e f = (wants.Message limit, refl)
asked_is (calls.HttpRecvrequest number deadline) n e f = (wants.Request, refl)
asked_is (calls.HttpRecvstatus number deadline) n e f = (wants.Status, refl)
asked_is (calls.HttpRecvfield number deadline) n e f = (wants.Field, refl)
asked_is call n e f = cc

-- ---- what sends, and goes, leaves that half

pub half_of : (s t : Held) → t.layers ≡ s.layers → t.unread ≡ s.unread → t.receiving.done ≡ s.receiving.done → SameHalf s t
half_of s t e f g = record { layers = subst (Half s.layers) (sym e) (as_was s.layers); unread = f; ended = g }

place_half : (place : Place) (xs : List Placed) → Half xs (at_place place xs)
place_half place (Http http ∷ below) = stands_at http place below
place_half place xs = as_was xs

undone_half : (xs : List Placed) → Half xs (undone xs)
undone_half (Term term ∷ below) = ended_at term false below
undone_half xs = as_was xs

withdraw_half : (s : Held) → SameHalf s (withdraw s)
unfolding withdraw
withdraw_half s = at (pending_item s)
  where
    opens : (xs : List Placed) → SameHalf s (reopened xs s)
    opens [] = half_of s (reopened [] s) refl refl refl
    opens (x ∷ xs) = half_of s s refl refl refl

    back : (origin : Origin) → Half s.layers (taken_back origin s.layers)
    back Plain = as_was s.layers
    back Ending = undone_half s.layers
    back (Line place) = place_half place s.layers
    back Pong = as_was s.layers

    by : (b : Bool) (item : Item) → SameHalf s (if b then record s { queue = filter is_pong s.queue; layers = taken_back item.origin s.layers } else broken_off s)
    by true item = record { layers = back item.origin; unread = refl; ended = refl }
    by false item = half_of s (broken_off s) refl refl refl

    at : (o : Option Item) → SameHalf s (given_up o s)
    at None = opens s.layers
    at (Some item) = by (item.gone == 0) item

-- an answer
pub after_half : (word : Word) (answer : Answer) (s : Held) → SameHalf s (after_send word answer s)
after_half word answer s = at (is_given_up answer) (is_tcp_done word && is_fault answer)
  where
    at : (b c : Bool) → SameHalf s (if b then withdraw s else (if c then giving.undone s else s))
    at true c = withdraw_half s
    at false true = half_of s (giving.undone s) refl refl refl
    at false false = half_of s s refl refl refl

-- a send that isn't refused
abbrev pub Halves : Held → Result (Held × Stream) Errno → Type 0
Halves s r = (now : Held × Stream) → r ≡ Ok now → SameHalf s now.0

ok_half : (s : Held) (now : Held × Stream) → SameHalf s now.0 → Halves s (Ok now)
ok_half s now h more e = let it : now ≡ more = cc in subst (λ (x : Held × Stream). SameHalf s x.0) it h

unless_half : (s : Held) (o : Option Errno) (r : Result (Held × Stream) Errno) → Halves s r → Halves s (unless o r)
unless_half s None r h = h
unless_half s (Some e) r h = λ now f. cc

then_half : {A : Type 0} (s : Held) (r : Result A Errno) (f : A → Result (Held × Stream) Errno) → ((a : A) → Halves s (f a)) → Halves s (and_then r f)
then_half s (Ok a) f h = h a
then_half s (Err e) f h = λ now g. cc

pub frame_half : (m : List ℕ) (u : Stream) (s : Held) → Halves s (frame m u s)
unfolding frame
frame_half m u s =
    let f : List ℕ × Stream → Result (Held × Stream) Errno = λ w. Ok (queued Plain w.0 s, w.1) in
    unless_half s (send_fault m false s) (and_then (composed s.layers m u) f) (then_half s (composed s.layers m u) f (λ w. ok_half s (queued Plain w.0 s, w.1) (half_of s (queued Plain w.0 s) refl refl refl)))

line_at : (place : Place) (w : List ℕ) (s : Held) → SameHalf s (with_line place w s)
line_at place w s = record { layers = place_half place s.layers; unread = refl; ended = refl }

pub line_half : (first : Bool) (w : List ℕ) (u : Stream) (s : Held) → Halves s (with_random u (line first w s))
unfolding line
line_half first w u s = at (line_fault first false s)
  where
    at : (o : Option Errno) → Halves s (with_random u (unless o (Ok (with_line AmongFields w s))))
    at None = ok_half s (with_line AmongFields w s, u) (line_at AmongFields w s)
    at (Some e) = λ now f. cc

pub done_half : (u : Stream) (s : Held) → Halves s (done u s)
unfolding done
done_half u s = unless_half s (done_fault false s) (with_end s.layers u s) (ends s.layers refl)
  where
    same : Halves s (Ok (s, u))
    same = ok_half s (s, u) (half_of s s refl refl refl)

    ends : (xs : List Placed) → s.layers ≡ xs → Halves s (with_end xs u s)
    ends [] e = let t : Held = record s { sending = record s.sending { done = true } } in ok_half s (t, u) (half_of s t refl refl refl)
    ends (Http http ∷ below) e = ok_half s (with_line BehindEmpty crlf s, u) (line_at BehindEmpty crlf s)
    ends (Term term ∷ below) e =
        let t : List ℕ → Held = λ w. record (queued Ending w s) { layers = Term (record term { done = true }) ∷ below } in
        let f : List ℕ × Stream → Result (Held × Stream) Errno = λ w. Ok (t w.0, w.1) in
        then_half s (composed below term.terminal u) f (λ w. ok_half s (t w.0, w.1) (record { layers = subst (λ xs. Half xs (Term (record term { done = true }) ∷ below)) (sym e) (ended_at term true below); unread = refl; ended = refl }))
    ends xs e = same
