-- What the calls of a stack leave of it, as it is seen by the calls that are pending on it.
use Rattle.std.proofs.Common.{◌≡◌, ◌∙◌, ◌⊎◌, inl, inr, ℕ, ◌+◌, List, [], ◌∷◌, ◌++◌, length, drop, Bool, true, false, not, ◌==◌, ◌&&◌, ◌||◌, cond, Option, Some, None, if◌then◌else◌, refl, sym, ap, subst}
use Rattle.std.specs.Prelude.{filter, map}
use Rattle.std.specs.List.{list_any}
use Rattle.rand_core.specs.Stream.{Stream}
use Rattle.dill_base.specs.declared.errno.Errno.TheVariants as errnos
use Rattle.dill_base.specs.declared.errno.Errno.TheVariants.{Eproto}
use Rattle.dill_base.specs.declared.errno.Front.{Front}
use Rattle.dill_base.specs.declared.errno.Front.TheVariants as front
use Rattle.dill_calls.specs.declared.answer.Answer.{Answer}
use Rattle.dill_calls.specs.declared.word.Word.{Word}
use Rattle.dill_ws.specs.declared.request.Asked.{Asked}
use Rattle.dill_ws.specs.declared.request.Asked.TheVariants as asked_as
use Rattle.dill_ws.specs.Handshakes.{client_front, server_front}
use Rattle.dill_ws.specs.declared.side.Side.{Side}
use Rattle.dill_stack.specs.declared.want.Want.{Want}
use Rattle.dill_stack.specs.declared.want.ReadOut.{ReadOut}
use Rattle.dill_stack.specs.declared.want.ReadOut.TheVariants as outs
use Rattle.dill_stack.specs.Formed.{IsFormed}
use Rattle.dill_stack.specs.Layers.{WsLayer, Placed, IsStanding}
use Rattle.dill_stack.specs.declared.direction.Direction.{Direction}
use Rattle.dill_stack.specs.declared.origin.Origin.TheVariants.{Pong}
use Rattle.dill_stack.specs.declared.task.Task.{Task}
use Rattle.dill_stack.specs.declared.task.Task.TheVariants.{Idle, Greets, Expects, Answers, Leaves}
use Rattle.dill_stack.specs.Held.{Held, Item, came, ended, broken_off, broke, drop_unread}
use Rattle.dill_stack.specs.Sending.{is_pong, is_sent, gone_on, took, first_sent, pending_item, reopened, taken_back, given_up, withdraw, unmark_done}
use Rattle.dill_stack.specs.Read.{Outcome}
use Rattle.dill_stack.specs.Receiving.{Looked, is_waiting_pong, replaced, with_pong, pong_of, ponged, answers_pings, with_pongs_of, ws_of, looked_over, breaks, read_of, read}
use Rattle.dill_stack.specs.Dropping.{is_given, dropped}
use Rattle.dill_stack.specs.Parting.{left_over, detach_finish}
use Rattle.dill_stack.specs.Greeting.{Heard, met_after, unmet, by_server, by_client, heard_by, greeted}
use Rattle.dill_rules.specs.Giving.{is_given_up, is_fault, after_send}
use Rattle.dill_rules.specs.LinkAnswers.{is_tcp_done}
use Rattle.laws_fits.specs.Fitting.{is_greeting, IsSolid}
use Rattle.laws_fits.proofs.Layers.{shape, same_standing, same_formed, back_shape, list_shape, below_standing, below_formed, dropped_leaves, Leaves as Lets}

-- The shape stays, a call that goes on does, no head is awaited that wasn't, and no item is queued, or one that may be.
pub record Soft (may : Type 0) (s t : Held) : Type 0 where
  pub layers : shape t.layers ≡ shape s.layers
  pub leaves : s.task ≡ Leaves → t.task ≡ Leaves
  pub greets : is_greeting s.task ≡ true → is_greeting t.task ≡ true
  pub expects : t.task ≡ Expects → s.task ≡ Expects
  pub solid : IsSolid s → IsSolid t
  pub sent : is_sent s ≡ true → (is_sent t ≡ true) ⊎ may

pub soft_same : (may : Type 0) (s t : Held) → t ≡ s → Soft may s t
soft_same may s t e = subst (Soft may s) (sym e) (record { layers = refl; leaves = λ f. f; greets = λ f. f; expects = λ f. f; solid = λ f. f; sent = λ f. inl f })

pub soft_then : (may : Type 0) (s t u : Held) → Soft may s t → Soft may t u → Soft may s u
soft_then may s t u a b = record {
  layers = b.layers ∙ a.layers;
  leaves = λ f. b.leaves (a.leaves f);
  greets = λ f. b.greets (a.greets f);
  expects = λ f. a.expects (b.expects f);
  solid = λ f. b.solid (a.solid f);
  sent = λ f. at (a.sent f);
}
  where
    at : (is_sent t ≡ true) ⊎ may → (is_sent u ≡ true) ⊎ may
    at (inl f) = b.sent f
    at (inr m) = inr m

-- with the same task, where what was sent stays so, and a direction that breaks drops all
keeps : (s t : Held) → shape t.layers ≡ shape s.layers → t.task ≡ s.task → (is_sent s ≡ true → is_sent t ≡ true) → (t.sending.broken ≡ true → (s.sending.broken ≡ true) ⊎ (is_sent t ≡ true)) → Soft ⊥ s t
keeps s t e f g h = record {
  layers = e;
  leaves = λ i. f ∙ i;
  greets = λ i. ap is_greeting f ∙ i;
  expects = λ i. sym f ∙ i;
  solid = λ k. record {
    standing = same_standing s.layers t.layers e k.standing;
    formed = same_formed s.layers t.layers e k.formed;
    broken = λ i. at k (h i);
    expects = λ i. g (k.expects (sym f ∙ i));
  };
  sent = λ i. inl (g i);
}
  where
    at : IsSolid s → (s.sending.broken ≡ true) ⊎ (is_sent t ≡ true) → is_sent t ≡ true
    at k (inl i) = g (k.broken i)
    at k (inr i) = i

pub soft_map : (may more : Type 0) (s t : Held) → (may → more) → Soft may s t → Soft more s t
soft_map may more s t f a = record { layers = a.layers; leaves = a.leaves; greets = a.greets; expects = a.expects; solid = a.solid; sent = λ e. at (a.sent e) }
  where
    at : (is_sent t ≡ true) ⊎ may → (is_sent t ≡ true) ⊎ more
    at (inl e) = inl e
    at (inr m) = inr (f m)

pub soft_may : (may : Type 0) (s t : Held) → Soft ⊥ s t → Soft may s t
soft_may may s t a = soft_map ⊥ may s t (λ m. absurd m) a

-- ---- what comes and goes

pub came_soft : (bytes : List ℕ) (s : Held) → Soft ⊥ s (came bytes s)
came_soft bytes s = keeps s (came bytes s) refl refl (λ e. e) (λ e. inl e)

pub ended_soft : (s : Held) → Soft ⊥ s (ended s)
ended_soft s = keeps s (ended s) refl refl (λ e. e) (λ e. inl e)

pub dropped_soft : (s : Held) → Soft ⊥ s (drop_unread s)
dropped_soft s = keeps s (drop_unread s) refl refl (λ e. e) (λ e. inl e)

pub broke_soft : (s : Held) → Soft ⊥ s (broke s)
broke_soft s = keeps s (broke s) refl refl (λ e. refl) (λ e. inr refl)

broken_soft : (s : Held) → Soft ⊥ s (broken_off s)
broken_soft s = keeps s (broken_off s) refl refl (λ e. refl) (λ e. inr refl)

abbrev unsent : List Item → Bool
unsent queue = list_any (λ item. not (is_pong item)) queue

-- so it is said where nothing is unsent
sent_none : (q : List Item) → not (unsent q) ≡ true → unsent q ≡ false
sent_none q e = at (unsent q) e
  where
    at : (b : Bool) → not b ≡ true → b ≡ false
    at true f = cc
    at false f = refl

or_both : (a b : Bool) → (a || b) ≡ false → (a ≡ false) × (b ≡ false)
or_both true b e = cc
or_both false b e = (refl, e)

gone_sent : (count : ℕ) (q : List Item) → unsent q ≡ false → unsent (gone_on count q) ≡ false
gone_sent count [] e = e
gone_sent count (x ∷ q) e = at (x.gone + count == length x.bytes)
  where
    at : (b : Bool) → unsent (if b then q else record x { gone = x.gone + count } ∷ q) ≡ false
    at true = (or_both (not (is_pong x)) (unsent q) e).1
    at false = e

pub took_soft : (count : ℕ) (s : Held) → Soft ⊥ s (took count s)
took_soft count s = keeps s (took count s) refl refl (λ e. ap not (gone_sent count s.queue (sent_none s.queue e))) (λ e. inl e)

-- the link's direction is done
pub end_soft : (s : Held) → Soft ⊥ s (record s { sending = record s.sending { done = true } })
end_soft s = keeps s (record s { sending = record s.sending { done = true } }) refl refl (λ e. e) (λ e. inl e)

-- ---- a send is answered

pongs_alone : (q : List Item) → unsent (filter is_pong q) ≡ false
pongs_alone [] = refl
pongs_alone (x ∷ q) = at (is_pong x) refl (pongs_alone q)
  where
    at : (b : Bool) → is_pong x ≡ b → unsent (filter is_pong q) ≡ false → unsent (cond b (x ∷ filter is_pong q) (filter is_pong q)) ≡ false
    at true e rest = ap (λ c. not c || unsent (filter is_pong q)) e ∙ rest
    at false e rest = rest

none_sent : (q : List Item) → first_sent q ≡ None → unsent q ≡ false
none_sent [] e = refl
none_sent (x ∷ q) e = at (not (is_pong x)) e (none_sent q)
  where
    at : (b : Bool) → cond b (Some x) (first_sent q) ≡ None → (first_sent q ≡ None → unsent q ≡ false) → (b || unsent q) ≡ false
    at true f rest = cc
    at false f rest = rest f

pub withdraw_soft : (s : Held) → Soft ⊥ s (withdraw s) × (is_sent (withdraw s) ≡ true)
unfolding withdraw
withdraw_soft s = at (pending_item s) refl
  where
    opens : (layers : List Placed) → is_sent s ≡ true → Soft ⊥ s (reopened layers s) × (is_sent (reopened layers s) ≡ true)
    opens [] e = (keeps s (unmark_done s) refl refl (λ f. f) (λ f. inl f), e)
    opens (x ∷ xs) e = (soft_same ⊥ s s refl, e)

    by : (b : Bool) (item : Item) → Soft ⊥ s (if b then record s { queue = filter is_pong s.queue; layers = taken_back item.origin s.layers } else broken_off s) × (is_sent (if b then record s { queue = filter is_pong s.queue; layers = taken_back item.origin s.layers } else broken_off s) ≡ true)
    by true item =
        let sent : is_sent (record s { queue = filter is_pong s.queue; layers = taken_back item.origin s.layers }) ≡ true = ap not (pongs_alone s.queue) in
        (keeps s (record s { queue = filter is_pong s.queue; layers = taken_back item.origin s.layers }) (back_shape item.origin s.layers) refl (λ f. sent) (λ f. inl f), sent)
    by false item = (broken_soft s, refl)

    at : (o : Option Item) → pending_item s ≡ o → Soft ⊥ s (given_up o s) × (is_sent (given_up o s) ≡ true)
    at None e = opens s.layers (ap not (none_sent s.queue e))
    at (Some item) e = by (item.gone == 0) item

pub after_soft : (word : Word) (answer : Answer) (s : Held) → Soft ⊥ s (after_send word answer s)
after_soft word answer s = at (is_given_up answer) (is_tcp_done word && is_fault answer)
  where
    at : (a b : Bool) → Soft ⊥ s (if a then withdraw s else (if b then unmark_done s else s))
    at true b = (withdraw_soft s).0
    at false true = keeps s (unmark_done s) refl refl (λ f. f) (λ f. inl f)
    at false false = soft_same ⊥ s s refl

-- ---- looks

replaced_sent : (w : List ℕ) (q : List Item) → unsent (map (replaced w) q) ≡ unsent q
replaced_sent w [] = refl
replaced_sent w (x ∷ q) = at (is_waiting_pong x) (replaced_sent w q)
  where
    at : (b : Bool) → unsent (map (replaced w) q) ≡ unsent q → (not (is_pong (if b then record x { bytes = w } else x)) || unsent (map (replaced w) q)) ≡ (not (is_pong x) || unsent q)
    at true e = ap (λ t. not (is_pong x) || t) e
    at false e = ap (λ t. not (is_pong x) || t) e

pushed_sent : (w : List ℕ) (q : List Item) → unsent (q ++ record { bytes = w; gone = 0; origin = Pong } ∷ []) ≡ unsent q
pushed_sent w [] = refl
pushed_sent w (x ∷ q) = ap (λ t. not (is_pong x) || t) (pushed_sent w q)

pong_sent : (w : List ℕ) (q : List Item) → unsent (with_pong w q) ≡ unsent q
pong_sent w q = at (list_any is_waiting_pong q)
  where
    at : (b : Bool) → unsent (if b then map (replaced w) q else q ++ record { bytes = w; gone = 0; origin = Pong } ∷ []) ≡ unsent q
    at true = replaced_sent w q
    at false = pushed_sent w q

ponged_sent : (side : Side) (pings : List (List ℕ)) (now : List Item × Stream) → unsent (ponged side pings now).0 ≡ unsent now.0
ponged_sent side [] now = refl
ponged_sent side (payload ∷ pings) now = ponged_sent side pings (with_pong (pong_of side payload now.1).0 now.0, (pong_of side payload now.1).1) ∙ pong_sent (pong_of side payload now.1).0 now.0

-- the same but for the queue and the unread bytes, and as much is sent
record Level (s t : Held) : Type 0 where
  layers : t.layers ≡ s.layers
  task : t.task ≡ s.task
  sending : t.sending ≡ s.sending
  sent : is_sent t ≡ is_sent s

pongs_level : (o : Option WsLayer) (pings : List (List ℕ)) (u : Stream) (s : Held) → Level s (with_pongs_of o pings u s).0
pongs_level None pings u s = record { layers = refl; task = refl; sending = refl; sent = refl }
pongs_level (Some ws) pings u s = at (answers_pings ws s)
  where
    at : (b : Bool) → Level s (let now : Held × Stream = if b then (record s { queue = (ponged ws.side pings (s.queue, u)).0 }, (ponged ws.side pings (s.queue, u)).1) else (s, u) in now.0)
    at true = record { layers = refl; task = refl; sending = refl; sent = ap not (ponged_sent ws.side pings (s.queue, u)) }
    at false = record { layers = refl; task = refl; sending = refl; sent = refl }

over_level : (o : Outcome) (u : Stream) (s : Held) → Level (record s { layers = o.layers; unread = drop o.used s.unread }) (looked_over o u s).stack
over_level o u s = pongs_level (ws_of s.layers) o.pings u (record s { layers = o.layers; unread = drop o.used s.unread })

over_soft : (o : Outcome) (u : Stream) (s : Held) → shape o.layers ≡ shape s.layers → Soft ⊥ s (looked_over o u s).stack
over_soft o u s e =
    let l = over_level o u s in
    keeps s (looked_over o u s).stack (ap shape l.layers ∙ e) l.task (λ f. l.sent ∙ f) (λ f. inl (ap (λ (d : Direction). d.broken) (sym l.sending) ∙ f))

pub read_soft : (want : Want) (u : Stream) (s : Held) → Soft ⊥ s (read want u s).stack
unfolding read
read_soft want u s = at (breaks l.said)
  where
    l : Looked
    l = looked_over (read_of want s) u s

    first : Soft ⊥ s l.stack
    first = over_soft (read_of want s) u s (list_shape want s.layers s.unread s.receiving.done)

    at : (b : Bool) → Soft ⊥ s (if b then record l.stack { receiving = record l.stack.receiving { broken = true } } else l.stack)
    at true = let t = record l.stack { receiving = record l.stack.receiving { broken = true } } in soft_then ⊥ s l.stack t first (keeps l.stack t refl refl (λ e. e) (λ e. inl e))
    at false = first

-- a handshake or a detach is over: all has gone, and nothing goes on
pub record Over (s t : Held) : Type 0 where
  pub sent : is_sent t ≡ true
  pub task : t.task ≡ Idle
  pub solid : IsSolid s → IsSolid t

idle_solid : (s t : Held) → is_sent t ≡ true → t.task ≡ Idle → (IsStanding s.layers → IsStanding t.layers) → (IsFormed s.layers → IsFormed t.layers) → Over s t
idle_solid s t e f g h = record { sent = e; task = f; solid = λ k. record { standing = g k.standing; formed = h k.formed; broken = λ i. e; expects = λ i. e } }

pub finish_soft : (u : Stream) (s : Held) → ((detach_finish u s).said ≡ outs.Need → Soft ⊥ s (detach_finish u s).stack) × (is_given (detach_finish u s).said ≡ true → Over s (detach_finish u s).stack)
unfolding detach_finish
finish_soft u s = at (is_sent s) refl
  where
    o : Outcome
    o = dropped s.layers s.unread s.receiving.done

    l : Looked
    l = looked_over o u s

    needs : (b : Bool) → is_given o.said ≡ b → (let m : Looked = if b then record l { stack = record l.stack { task = Idle } } else l in m.said) ≡ outs.Need → Lets s.layers o → Soft ⊥ s (let m : Looked = if b then record l { stack = record l.stack { task = Idle } } else l in m.stack)
    needs true e f h = let bad : is_given outs.Need ≡ true = ap is_given (sym f) ∙ e in cc
    needs false e f (inl h) = over_soft o u s h
    needs false e f (inr h) = let bad : true ≡ false = sym h.1 ∙ e in cc

    layers : Lets s.layers o → (t : Held) → t.layers ≡ o.layers → (IsStanding s.layers → IsStanding t.layers) × (IsFormed s.layers → IsFormed t.layers)
    layers (inl h) t e = let same : shape t.layers ≡ shape s.layers = ap shape e ∙ h in (λ k. same_standing s.layers t.layers same k, λ k. same_formed s.layers t.layers same k)
    layers (inr h) t e =
        let same = ap shape e ∙ h.0 in
        (λ k. same_standing _ t.layers same (below_standing s.layers k), λ k. same_formed _ t.layers same (below_formed s.layers k))

    over : is_sent s ≡ true → (b : Bool) → is_given o.said ≡ b → is_given (let m : Looked = if b then record l { stack = record l.stack { task = Idle } } else l in m.said) ≡ true → Over s (let m : Looked = if b then record l { stack = record l.stack { task = Idle } } else l in m.stack)
    over sent true e f =
        let t = record l.stack { task = Idle } in
        let v = over_level o u s in
        let k = layers (dropped_leaves s.layers s.unread s.receiving.done) t v.layers in
        idle_solid s t (v.sent ∙ sent) refl k.0 k.1
    over sent false e f = let bad : true ≡ false = sym f ∙ e in cc

    at : (b : Bool) → is_sent s ≡ b → ((if b then left_over l else record { stack = s; said = outs.Need; random = u }).said ≡ outs.Need → Soft ⊥ s (if b then left_over l else record { stack = s; said = outs.Need; random = u }).stack) × (is_given (if b then left_over l else record { stack = s; said = outs.Need; random = u }).said ≡ true → Over s (if b then left_over l else record { stack = s; said = outs.Need; random = u }).stack)
    at true e = (λ f. needs (is_given o.said) refl f (dropped_leaves s.layers s.unread s.receiving.done), λ f. over e (is_given o.said) refl f)
    at false e = (λ f. soft_same ⊥ s s refl, λ f. cc)

-- what a look at a handshake leaves, where its sending direction is whole
abbrev Both : Held → Heard → Type 0
Both s h = (h.said ≡ outs.Need → s.sending.broken ≡ false → Soft (Unit {0}) s h.stack) × (is_given h.said ≡ true → Over s h.stack)

pub greet_soft : (s : Held) → ((greeted s).said ≡ outs.Need → s.sending.broken ≡ false → Soft (Unit {0}) s (greeted s).stack) × (is_given (greeted s).said ≡ true → Over s (greeted s).stack)
unfolding greeted
greet_soft s = at s.task refl
  where
    still : (said : ReadOut) → is_given said ≡ false → Both s (record { stack = s; said = said })
    still said e = (λ f b. soft_same (Unit {0}) s s refl, λ f. let bad : true ≡ false = sym f ∙ e in cc)

    met : (used : ℕ) → is_sent s ≡ true → Both s (met_after used s)
    met used e = (λ f b. cc, λ f. idle_solid s (met_after used s).stack e refl (λ k. k) (λ k. k))

    no_head : Both s (unmet s)
    no_head = still (unmet s).said (none s.receiving.done)
      where
        last : (b : Bool) → is_given (if b then outs.Fault errnos.Epipe else outs.Fault Eproto) ≡ false
        last true = refl
        last false = refl

        none : (b : Bool) → is_given (if not b then outs.Need else if true && length s.unread == 0 then outs.Fault errnos.Epipe else outs.Fault Eproto) ≡ false
        none true = last (length s.unread == 0)
        none false = refl

    server : is_sent s ≡ true → (f : Front) → Both s (by_server f s)
    server e (front.Whole from to used) = met used e
    server e front.Need = no_head
    server e (front.Fault x) = still (outs.Fault x) refl

    client : s.task ≡ Expects → (a : Asked) → Both s (by_client a s)
    client e (asked_as.Whole key used) = (
      λ f b. record {
        layers = refl;
        leaves = λ g. let bad : Expects ≡ Leaves = sym e ∙ g in cc;
        greets = λ g. refl;
        expects = λ g. cc;
        solid = λ k. record { standing = k.standing; formed = k.formed; broken = λ g. let bad : true ≡ false = sym g ∙ b in cc; expects = λ g. cc };
        sent = λ g. inr tt;
      },
      λ f. cc,
    )
    client e asked_as.Need = no_head
    client e (asked_as.Fault x) = still (outs.Fault x) refl

    sent : (b : Bool) → is_sent s ≡ b → (h : Heard) → (is_sent s ≡ true → Both s h) → Both s (if b then h else record { stack = s; said = outs.Need })
    sent true e h k = k e
    sent false e h k = still outs.Need refl

    at : (t : Task) → s.task ≡ t → Both s (heard_by t s)
    at Idle e = still outs.Need refl
    at (Greets accept) e = sent (is_sent s) refl (by_server (server_front accept s.unread) s) (λ f. server f (server_front accept s.unread))
    at Expects e = client e (client_front s.unread)
    at Answers e = sent (is_sent s) refl (met_after 0 s) (met 0)
    at Leaves e = still outs.Need refl
