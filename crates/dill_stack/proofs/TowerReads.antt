-- What a receive reads through ends by terminal messages over the layer on the link.
use Rattle.std.proofs.Common.{◌≡◌, ◌<◌, ◌≤◌, ◌+◌, ◌-◌, ◌∷◌, ◌||◌, ◌&&◌, ◌==◌, [], List, ℕ, suc, zero, length, take, drop, get_or, arith, sym, ap, ◌∙◌, refl, Bool, true, false, bytes_eq, Option, Some, None, Err, if◌then◌else◌}
use Rattle.std.proofs.lemmas.List.{drop_more, drop_all}
use Rattle.std.proofs.Math.ListN.{set}
use Rattle.std.proofs.Math.Dec.{eqb-suc-zero}
use Rattle.dill_base.specs.declared.errno.Errno.{Errno}
use Rattle.dill_base.specs.declared.errno.Errno.TheVariants.{Epipe, Eproto}
use Rattle.dill_base.specs.declared.errno.Front.{Front}
use Rattle.dill_base.specs.declared.errno.Front.TheVariants as front
use Rattle.dill_calls.specs.declared.answer.Answer.TheVariants.{Bytes}
use Rattle.dill_stack.specs.declared.placed.Base.{Base}
use Rattle.dill_stack.specs.declared.placed.Base.TheVariants as base
use Rattle.dill_stack.specs.declared.want.ReadOut.{ReadOut}
use Rattle.dill_stack.specs.declared.want.ReadOut.TheVariants.{Given, Need, Fault}
use Rattle.dill_stack.specs.Layers.{TermLayer, WsLayer, Placed, Term, HasMessages}
use Rattle.rand_core.specs.Stream.{Stream}
use Rattle.dill_base.specs.declared.errno.Errno.TheVariants.{Einval}
use Rattle.dill_stack.specs.declared.want.Want.{Want}
use Rattle.dill_stack.specs.Held.{Held}
use Rattle.dill_stack.specs.Rooms.{Stocked}
use Rattle.dill_stack.specs.Composed.{spelled}
use Rattle.dill_stack.specs.Refusing.{fault_of}
use Rattle.dill_stack.specs.Read.{Outcome, outcome, read_message, over_term, by_front, no_more}
use Rattle.dill_stack.specs.Receiving.{ws_of, broken_by, read, read_of, with_pongs_of, answers_pings}
use Rattle.dill_stack.specs.Standing.{tower, base_layers, HasBase, HasEnds, IsTower}
use Rattle.dill_stack.specs.Taking.{any_met, lowest, found, meet, base_front, IsFraming, DrawsNone, over_layers, after}

pub meet_set : (ts : List TermLayer) (n : ℕ) (t : TermLayer) → n < length ts → set ts n (record (get_or ts n t) { met = true }) ≡ meet n ts
meet_set [] n t h = absurd (omega arith)
meet_set (x ∷ ts) zero t h = refl
meet_set (x ∷ ts) (suc n) t h = ap (λ xs. x ∷ xs) (meet_set ts n t (omega arith))

abbrev pub over_terms : List TermLayer → Outcome → Outcome
over_terms [] o = o
over_terms (t ∷ ts) o = over_term t (over_terms ts o)

pick_true : (b : Bool) (x y : Outcome) → b ≡ true → (if b then x else y) ≡ x
pick_true true x y e = refl
pick_true false x y e = cc

pick_false : (b : Bool) (x y : Outcome) → b ≡ false → (if b then x else y) ≡ y
pick_false true x y e = cc
pick_false false x y e = refl

met_step : (t : TermLayer) (below : List Placed) (u : List ℕ) (e : Bool) (l : ℕ) (b r : Bool) → (t.met ≡ b) → (r ≡ true → read_message below u e l ≡ outcome 0 below (Fault Epipe)) → b || r ≡ true → read_message (Term t ∷ below) u e l ≡ outcome 0 (Term t ∷ below) (Fault Epipe)
met_step t below u e l true r m h k = pick_true t.met _ _ m
met_step t below u e l false r m h k = pick_false t.met _ _ m ∙ ap (over_term t) (h k)

-- Where an end was met, every read is refused.
pub read_met : (ts : List TermLayer) (below : List Placed) (u : List ℕ) (e : Bool) (l : ℕ) → any_met ts ≡ true → read_message (tower ts below) u e l ≡ outcome 0 (tower ts below) (Fault Epipe)
read_met [] below u e l h = cc
read_met (t ∷ ts) below u e l h = met_step t (tower ts below) u e l t.met (any_met ts) refl (read_met ts below u e l) h

over_step : (t : TermLayer) (below : List Placed) (u : List ℕ) (e : Bool) (l : ℕ) (b r : Bool) (o : Outcome) → (t.met ≡ b) → (r ≡ false → read_message below u e l ≡ o) → b || r ≡ false → read_message (Term t ∷ below) u e l ≡ over_term t o
over_step t below u e l true r o m h k = cc
over_step t below u e l false r o m h k = pick_false t.met _ _ m ∙ ap (over_term t) (h k)

-- Else it is the read below, past each terminal layer.
pub read_over : (ts : List TermLayer) (below : List Placed) (u : List ℕ) (e : Bool) (l : ℕ) → any_met ts ≡ false → read_message (tower ts below) u e l ≡ over_terms ts (read_message below u e l)
read_over [] below u e l h = refl
read_over (t ∷ ts) below u e l h = over_step t (tower ts below) u e l t.met (any_met ts) (over_terms ts (read_message below u e l)) refl (read_over ts below u e l) h

pub over_need : (ts : List TermLayer) (k : ℕ) (below : List Placed) → over_terms ts (outcome k below Need) ≡ outcome k (tower ts below) Need
over_need [] k below = refl
over_need (t ∷ ts) k below = ap (over_term t) (over_need ts k below)

pub over_fault : (ts : List TermLayer) (k : ℕ) (below : List Placed) (f : Errno) → over_terms ts (outcome k below (Fault f)) ≡ outcome k (tower ts below) (Fault f)
over_fault [] k below f = refl
over_fault (t ∷ ts) k below f = ap (over_term t) (over_fault ts k below f)

-- what comes of a message
abbrev pub sieved : List TermLayer → ℕ → List Placed → List ℕ → Option ℕ → Outcome
sieved ts k below m None = outcome k (tower ts below) (Given (Bytes m))
sieved ts k below m (Some n) = outcome k (tower (meet n ts) below) (Fault Epipe)

sieve_step : (t : TermLayer) (ts : List TermLayer) (k : ℕ) (below : List Placed) (m : List ℕ) (o : Option ℕ) (b : Bool) → bytes_eq m t.terminal ≡ b → over_term t (sieved ts k below m o) ≡ sieved (t ∷ ts) k below m (found o b)
sieve_step t ts k below m (Some n) b e = refl
sieve_step t ts k below m None true e = rw e refl
sieve_step t ts k below m None false e = rw e refl

pub over_given : (ts : List TermLayer) (k : ℕ) (below : List Placed) (m : List ℕ) → over_terms ts (outcome k below (Given (Bytes m))) ≡ sieved ts k below m (lowest ts m)
over_given [] k below m = refl
over_given (t ∷ ts) k below m = ap (over_term t) (over_given ts k below m) ∙ sieve_step t ts k below m (lowest ts m) (bytes_eq m t.terminal) refl

pub lowest_below : (ts : List TermLayer) (m : List ℕ) (n : ℕ) → lowest ts m ≡ Some n → n < length ts
lowest_below [] m n h = cc
lowest_below (t ∷ ts) m n h = found_below (lowest ts m) (bytes_eq m t.terminal) (λ k e. lowest_below ts m k e) h
  where
    found_below : (o : Option ℕ) (b : Bool) → ((k : ℕ) → o ≡ Some k → k < length ts) → found o b ≡ Some n → n < length (t ∷ ts)
    found_below (Some k) b f e = let l : k < length ts = f k refl in let i : suc k ≡ n = cc in omega arith
    found_below None true f e = let i : 0 ≡ n = cc in omega arith
    found_below None false f e = cc

-- the search from the lowest up
pub found_none : (ts : List TermLayer) (m : List ℕ) (at : ℕ) (t : TermLayer) → at < length ts → bytes_eq m (get_or ts at t).terminal ≡ false → lowest (drop (at + 1) ts) m ≡ None → lowest (drop at ts) m ≡ None
found_none ts m at t h e n = ap (λ xs. lowest xs m) (drop_more ts at t h) ∙ ap (λ o. found o (bytes_eq m (get_or ts at t).terminal)) n ∙ ap (found None) e

pub found_here : (ts : List TermLayer) (m : List ℕ) (at : ℕ) (t : TermLayer) → at < length ts → bytes_eq m (get_or ts at t).terminal ≡ true → lowest (drop (at + 1) ts) m ≡ None → lowest (drop at ts) m ≡ Some 0
found_here ts m at t h e n = ap (λ xs. lowest xs m) (drop_more ts at t h) ∙ ap (λ o. found o (bytes_eq m (get_or ts at t).terminal)) n ∙ ap (found None) e

pub found_up : (ts : List TermLayer) (m : List ℕ) (at k : ℕ) → at < length ts → lowest (drop at ts) m ≡ Some k → lowest ts m ≡ Some (at + k)
found_up [] m at k h e = absurd (omega arith)
found_up (t ∷ ts) m zero k h e = e ∙ ap Some (omega arith)
found_up (t ∷ ts) m (suc at) k h e = ap (λ o. found o (bytes_eq m t.terminal)) (found_up ts m at k (omega arith) e) ∙ ap Some (omega arith)

pub searched : (ts : List TermLayer) (m : List ℕ) (back : ℕ) (t : TermLayer) → back < length ts → bytes_eq m (get_or ts (length ts - 1 - back) t).terminal ≡ false → lowest (drop (length ts - back) ts) m ≡ None → lowest (drop (length ts - (back + 1)) ts) m ≡ None
searched ts m back t h e n =
    let i : length ts - back ≡ (length ts - 1 - back) + 1 = omega arith in
    let j : length ts - (back + 1) ≡ length ts - 1 - back = omega arith in
    ap (λ k. lowest (drop k ts) m) j ∙ found_none ts m (length ts - 1 - back) t (omega arith) e (ap (λ k. lowest (drop k ts) m) (sym i) ∙ n)

pub searched_first : (ts : List TermLayer) (m : List ℕ) → lowest (drop (length ts - 0) ts) m ≡ None
searched_first ts m = ap (λ xs. lowest xs m) (drop_all (length ts - 0) ts (omega arith))

pub search_found : (ts : List TermLayer) (m : List ℕ) (back : ℕ) (t : TermLayer) → back < length ts → bytes_eq m (get_or ts (length ts - 1 - back) t).terminal ≡ true → lowest (drop (length ts - back) ts) m ≡ None → Some (length ts - 1 - back) ≡ lowest ts m
search_found ts m back t h e n =
    let i : length ts - back ≡ (length ts - 1 - back) + 1 = omega arith in
    let f : lowest (drop (length ts - 1 - back) ts) m ≡ Some 0 = found_here ts m (length ts - 1 - back) t (omega arith) e (ap (λ k. lowest (drop k ts) m) (sym i) ∙ n) in
    sym (found_up ts m (length ts - 1 - back) 0 (omega arith) f ∙ ap Some (omega arith))

pub search_none : (ts : List TermLayer) (m : List ℕ) (back : ℕ) → length ts ≤ back → lowest (drop (length ts - back) ts) m ≡ None → None ≡ lowest ts m
search_none ts m back h n =
    let i : length ts - back ≡ 0 = omega arith in
    sym (ap (λ k. lowest (drop k ts) m) (sym i) ∙ n)

-- one layer on the link alone
pub read_base : (b : Base) (u : List ℕ) (e : Bool) (l : ℕ) → IsFraming b → read_message (base_layers b) u e l ≡ by_front (base_layers b) u e (base_front b u l)
read_base base.Bytes u e l f = absurd f
read_base (base.Prefix form) u e l f = refl
read_base (base.Suffix t) u e l f = refl
read_base (base.Http http) u e l f = absurd f
read_base (base.Ws framed) u e l f = absurd f

pub layers_base : (b : Base) (k : ℕ) (said : ReadOut) → over_layers (base_layers b) (outcome k [] said) ≡ outcome k (base_layers b) said
layers_base base.Bytes k said = refl
layers_base (base.Prefix form) k said = refl
layers_base (base.Suffix t) k said = refl
layers_base (base.Http http) k said = refl
layers_base (base.Ws framed) k said = refl

pub layers_tower : (ts : List TermLayer) (b : Base) (k : ℕ) (said : ReadOut) → over_layers (tower ts (base_layers b)) (outcome k [] said) ≡ over_terms ts (outcome k (base_layers b) said)
layers_tower [] b k said = layers_base b k said
layers_tower (t ∷ ts) b k said = ap (over_term t) (layers_tower ts b k said)

over_no_more : (ts : List TermLayer) (below : List Placed) (e : Bool) (u : List ℕ) → over_terms ts (outcome 0 below (no_more e true u)) ≡ outcome 0 (tower ts below) (no_more e true u)
over_no_more ts below false u = over_need ts 0 below
over_no_more ts below true [] = over_fault ts 0 below Epipe
over_no_more ts below true (x ∷ u) = rw (eqb-suc-zero (length u)) (over_fault ts 0 below Eproto)

reads_by : (ts : List TermLayer) (b : Base) (u : List ℕ) (e : Bool) (l : ℕ) (q : Front) → IsFraming b → any_met ts ≡ false → q ≡ base_front b u l → read_message (tower ts (base_layers b)) u e l ≡ over_terms ts (by_front (base_layers b) u e q)
reads_by ts b u e l q f m h = read_over ts (base_layers b) u e l m ∙ ap (over_terms ts) (read_base b u e l f ∙ ap (by_front (base_layers b) u e) (sym h))

pub reads_whole : (ts : List TermLayer) (b : Base) (u : List ℕ) (e : Bool) (l x y z : ℕ) → IsFraming b → any_met ts ≡ false → front.Whole x y z ≡ base_front b u l → read_message (tower ts (base_layers b)) u e l ≡ over_layers (tower ts (base_layers b)) (outcome z [] (Given (Bytes (take (y - x) (drop x u)))))
reads_whole ts b u e l x y z f m h = reads_by ts b u e l (front.Whole x y z) f m h ∙ sym (layers_tower ts b z (Given (Bytes (take (y - x) (drop x u)))))

pub reads_need : (ts : List TermLayer) (b : Base) (u : List ℕ) (e : Bool) (l : ℕ) → IsFraming b → any_met ts ≡ false → front.Need ≡ base_front b u l → read_message (tower ts (base_layers b)) u e l ≡ outcome 0 (tower ts (base_layers b)) (no_more e true u)
reads_need ts b u e l f m h = reads_by ts b u e l front.Need f m h ∙ over_no_more ts (base_layers b) e u

pub reads_fault : (ts : List TermLayer) (b : Base) (u : List ℕ) (e : Bool) (l : ℕ) (x : Errno) → IsFraming b → any_met ts ≡ false → front.Fault x ≡ base_front b u l → read_message (tower ts (base_layers b)) u e l ≡ outcome 0 (tower ts (base_layers b)) (Fault x)
reads_fault ts b u e l x f m h = reads_by ts b u e l (front.Fault x) f m h ∙ over_fault ts 0 (base_layers b) x

pub takes_none : (ts : List TermLayer) (b : Base) (k : ℕ) (m : List ℕ) → None ≡ lowest ts m → over_layers (tower ts (base_layers b)) (outcome k [] (Given (Bytes m))) ≡ outcome k (tower ts (base_layers b)) (Given (Bytes m))
takes_none ts b k m h = layers_tower ts b k (Given (Bytes m)) ∙ over_given ts k (base_layers b) m ∙ ap (sieved ts k (base_layers b) m) (sym h)

pub takes_end : (ts : List TermLayer) (b : Base) (k n : ℕ) (m : List ℕ) → Some n ≡ lowest ts m → over_layers (tower ts (base_layers b)) (outcome k [] (Given (Bytes m))) ≡ outcome k (tower (meet n ts) (base_layers b)) (Fault Epipe)
takes_end ts b k n m h = layers_tower ts b k (Given (Bytes m)) ∙ over_given ts k (base_layers b) m ∙ ap (sieved ts k (base_layers b) m) (sym h)

pub messages_base : (ts : List TermLayer) (b : Base) → HasBase ts b → HasMessages (tower ts (base_layers b)) → HasMessages (base_layers b)
messages_base [] b h k = k
messages_base (t ∷ ts) base.Bytes h k = cc
messages_base (t ∷ ts) (base.Prefix form) h k = tt
messages_base (t ∷ ts) (base.Suffix end) h k = tt
messages_base (t ∷ ts) (base.Http http) h k = cc
messages_base (t ∷ ts) (base.Ws framed) h k = tt

pub ws_tower : (ts : List TermLayer) (below : List Placed) → ws_of (tower ts below) ≡ ws_of below
ws_tower [] below = refl
ws_tower (t ∷ ts) below = ws_tower ts below

pub framed_base : (b : Base) → HasMessages (base_layers b) → ws_of (base_layers b) ≡ None → IsFraming b
framed_base base.Bytes h k = absurd h
framed_base (base.Prefix form) h k = tt
framed_base (base.Suffix end) h k = tt
framed_base (base.Http http) h k = absurd h
framed_base (base.Ws framed) h k = cc

-- messages without frames are those of a framing
pub framing_base : (ts : List TermLayer) (b : Base) → HasBase ts b → HasMessages (tower ts (base_layers b)) → ws_of (tower ts (base_layers b)) ≡ None → IsFraming b
framing_base ts b h k p = framed_base b (messages_base ts b h k) (sym (ws_tower ts (base_layers b)) ∙ p)

spelled_meet : (n : ℕ) (ts : List TermLayer) (below : List Placed) (m : List ℕ) → spelled [] (tower (meet n ts) below) m ≡ spelled [] (tower ts below) m
spelled_meet n [] below m = refl
spelled_meet zero (t ∷ ts) below m = refl
spelled_meet (suc n) (t ∷ ts) below m = ap (λ r. if bytes_eq m t.terminal then Err Einval else r) (spelled_meet n ts below m)

ends_meet : (n : ℕ) (ts : List TermLayer) (below : List Placed) → HasEnds ts below → HasEnds (meet n ts) below
ends_meet n [] below h = tt
ends_meet zero (t ∷ ts) below h = h
ends_meet (suc n) (t ∷ ts) below h = (h.0, ap fault_of (spelled_meet n ts below t.terminal) ∙ h.1, ends_meet n ts below h.2)

based_meet : (n : ℕ) (ts : List TermLayer) (b : Base) → HasBase ts b → HasBase (meet n ts) b
based_meet n ts base.Bytes h = ap (meet n) h
based_meet n ts (base.Prefix form) h = tt
based_meet n ts (base.Suffix end) h = tt
based_meet n ts (base.Http http) h = ap (meet n) h
based_meet n ts (base.Ws framed) h = tt

pub stack_meet : (n : ℕ) (ts : List TermLayer) (b : Base) (room : ℕ) → IsTower ts b room → IsTower (meet n ts) b room
stack_meet n ts b room i = record { fits = i.fits; based = based_meet n ts b i.based; ends = ends_meet n ts (base_layers b) i.ends; room = i.room }

-- an end that was met before: nothing changes
pub stays_met : (s : Stocked) (o : Outcome) → o ≡ outcome 0 s.held.layers (Fault Epipe) → s ≡ after o s
stays_met s o h = sym (ap (λ x. after x s) h)

-- Where nothing whole is there, nothing is used.
pub need_after : (s : Stocked) (o : Outcome) (r : ReadOut) (b : Bool) → o ≡ outcome 0 s.held.layers (no_more s.held.receiving.done b s.held.unread) → r ≡ no_more s.held.receiving.done b s.held.unread → record s { held = broken_by r s.held } ≡ after o s
need_after s o r b h q = sym (ap (λ x. after x s) (h ∙ ap (outcome 0 s.held.layers) (sym q)))

-- a stack and the random numbers, whether pings are answered or not
abbrev pub kept_if_so : Bool → Held → Stream → Held × Stream
kept_if_so b t random = if b then (record t { queue = t.queue }, random) else (t, random)

abbrev pub kept_both : Held → Stream → Held × Stream
kept_both t random = (t, random)

kept_by : (b : Bool) (t : Held) (random : Stream) → kept_if_so b t random ≡ kept_both t random
kept_by true t random = refl
kept_by false t random = refl

no_pongs : (w : Option WsLayer) (random : Stream) (t : Held) → with_pongs_of w [] random t ≡ (t, random)
no_pongs None random t = refl
no_pongs (Some ws) random t = kept_by (answers_pings ws t) t random

-- Where no ping was passed, or no frames stand there, no pong is queued.
pub draws_none : (o : Outcome) (s : Held) → o.pings ≡ [] → DrawsNone o s
draws_none o s h = λ random t. ap (λ p. with_pongs_of (ws_of s.layers) p random t) h ∙ no_pongs (ws_of s.layers) random t

pub draws_plain : (o : Outcome) (s : Held) → ws_of s.layers ≡ None → DrawsNone o s
draws_plain o s h = λ random t. ap (λ w. with_pongs_of w o.pings random t) h

-- Such a stack reads as its layers do, and draws no random number.
pub reads_plain : (want : Want) (random : Stream) (s : Held) → DrawsNone (read_of want s) s → read want random s ≡ record { stack = broken_by (read_of want s).said (record s { layers = (read_of want s).layers; unread = drop (read_of want s).used s.unread }); said = (read_of want s).said; random = random }
unfolding read
reads_plain want random s h = ap (λ (p : Held × Stream). record { stack = broken_by (read_of want s).said p.0; said = (read_of want s).said; random = p.1 }) (h random (record s { layers = (read_of want s).layers; unread = drop (read_of want s).used s.unread }))

-- what a receive leaves that has passed frames first
pub look_after : (want : Want) (random now : Stream) (from mid to : Stocked) → mid ≡ record from { held = mid.held } → read want now mid.held ≡ read want random from.held → DrawsNone (read_of want mid.held) mid.held → to ≡ after (read_of want mid.held) mid → to ≡ record from { held = (read want random from.held).stack }
look_after want random now from mid to r e d t =
    let o : Outcome = read_of want mid.held in
    let left : Held = broken_by o.said (record mid.held { layers = o.layers; unread = drop o.used mid.held.unread }) in
    let held : left ≡ (read want random from.held).stack = sym (ap (λ l. l.stack) (reads_plain want now mid.held d)) ∙ ap (λ l. l.stack) e in
    t ∙ ap {A = Stocked} (λ s. record s { held = left }) r ∙ ap {A = Held} (λ k. record from { held = k }) held
