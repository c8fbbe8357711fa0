-- What a detach drops, through ends by terminal messages over the layer on the link.
use Rattle.std.proofs.Common.{◌≡◌, ◌≤◌, ◌-◌, ◌==◌, ◌∷◌, ◌||◌, ◌&&◌, [], List, ℕ, suc, zero, length, take, drop, arith, sym, ap, ◌∙◌, refl, Bool, true, false, not, bytes_eq, Option, Some, None, if◌then◌else◌}
use Rattle.dill_base.specs.declared.errno.Errno.{Errno}
use Rattle.dill_base.specs.declared.errno.Errno.TheVariants.{Epipe, Eproto}
use Rattle.dill_base.specs.declared.errno.Front.{Front}
use Rattle.dill_base.specs.declared.errno.Front.TheVariants as front
use Rattle.dill_calls.specs.declared.answer.Answer.TheVariants.{Bytes, Number}
use Rattle.dill_stack.specs.declared.placed.Base.{Base}
use Rattle.dill_stack.specs.declared.placed.Base.TheVariants as base
use Rattle.dill_stack.specs.declared.want.ReadOut.{ReadOut}
use Rattle.dill_stack.specs.declared.want.ReadOut.TheVariants.{Given, Need, Fault}
use Rattle.dill_stack.specs.declared.dropping.DropStep.TheVariants as step
use Rattle.dill_stack.specs.Layers.{is_behind, is_first, AmongFields, TermLayer, HttpLayer, Placed, Prefix, Suffix, Term, Http, Ws, HasMessages}
use Rattle.dill_stack.specs.Held.{Held}
use Rattle.dill_stack.specs.Rooms.{Stocked}
use Rattle.dill_stack.specs.Read.{Outcome, outcome, read_message, no_more, is_terminal, read_ws, received}
use Rattle.dill_stack.specs.Dropping.{Dropped, Item, End, Stops, drop_one, drop_message, drop_frames, drop_line, dropped_within, dropped, drop_limit, is_given, has_met, left_with}
use Rattle.dill_stack.specs.Receiving.{ws_of}
use Rattle.dill_stack.specs.Standing.{tower, base_layers, HasBase, HasEnds, IsTower, ends_of}
use Rattle.dill_stack.specs.Taking.{IsFraming, any_met, lowest, found, meet, base_front, behind}
use Rattle.dill_stack.specs.Leaving.{step_of, outcome_of, all_dropped, is_top_met, below_top, sifted, step_at, terms_at}
use Rattle.dill_http.specs.Lines.{front_of_line}
use Rattle.dill_stack.proofs.TowerReads.{ws_tower, framed_base, stack_meet, sieved, read_met, reads_whole, reads_need, reads_fault, layers_tower, over_given}

-- what comes of a message that a detach drops
abbrev pub sifted_as : List TermLayer → ℕ → List Placed → List ℕ → Option ℕ → Dropped
sifted_as ts k below m None = Item (outcome k (tower ts below) (Given (Bytes m)))
sifted_as ts k below m (Some zero) = End (outcome k (tower (below_top ts) below) (Given (Number 0)))
sifted_as ts k below m (Some (suc n)) = Stops (outcome k (tower (meet (suc n) ts) below) (Fault Epipe))

sift_step : (t : TermLayer) (ts : List TermLayer) (k : ℕ) (below : List Placed) (m : List ℕ) (o : Option ℕ) (b : Bool) → bytes_eq m t.terminal ≡ b → drop_message t (sieved ts k below m o) ≡ sifted_as (t ∷ ts) k below m (found o b)
sift_step t ts k below m (Some n) b e = refl
sift_step t ts k below m None true e = rw e refl
sift_step t ts k below m None false e = rw e refl

pub sifts : (ts : List TermLayer) (b : Base) (k : ℕ) (m : List ℕ) → 1 ≤ length ts → sifted (tower ts (base_layers b)) (outcome k [] (Given (Bytes m))) ≡ sifted_as ts k (base_layers b) m (lowest ts m)
sifts [] b k m h = absurd (omega (arith, h))
sifts (t ∷ ts) b k m h = ap (drop_message t) (layers_tower ts b k (Given (Bytes m)) ∙ over_given ts k (base_layers b) m) ∙ sift_step t ts k (base_layers b) m (lowest ts m) (bytes_eq m t.terminal) refl

pub sifts_by : (ts : List TermLayer) (b : Base) (k : ℕ) (m : List ℕ) (o : Option ℕ) → 1 ≤ length ts → o ≡ lowest ts m → sifted (tower ts (base_layers b)) (outcome k [] (Given (Bytes m))) ≡ sifted_as ts k (base_layers b) m o
sifts_by ts b k m o h e = sifts ts b k m h ∙ ap (sifted_as ts k (base_layers b) m) (sym e)

pub step_of_end : (ts : List TermLayer) (k : ℕ) (below : List Placed) (m : List ℕ) (at : ℕ) → step_at at ≡ step_of (sifted_as ts k below m (Some at))
step_of_end ts k below m zero = refl
step_of_end ts k below m (suc n) = refl

pub held_of_end : (ts : List TermLayer) (k : ℕ) (below : List Placed) (m : List ℕ) (at : ℕ) (s : Stocked) → record s { held = record s.held { layers = tower (terms_at at ts) below; unread = drop k s.held.unread } } ≡ record s { held = behind (outcome_of (sifted_as ts k below m (Some at))) s.held }
held_of_end ts k below m zero s = refl
held_of_end ts k below m (suc n) s = refl

pick_yes : (b : Bool) (x y : Dropped) → b ≡ true → (if b then x else y) ≡ x
pick_yes true x y e = refl
pick_yes false x y e = cc

pick_no : (b : Bool) (x y : Dropped) → b ≡ false → (if b then x else y) ≡ y
pick_no true x y e = cc
pick_no false x y e = refl

-- the end of the top was met before
pub drops_met : (ts : List TermLayer) (below : List Placed) (u : List ℕ) (e : Bool) → is_top_met ts ≡ true → drop_one (tower ts below) u e ≡ End (outcome 0 (tower (below_top ts) below) (Given (Number 0)))
drops_met [] below u e h = cc
drops_met (t ∷ ts) below u e h = pick_yes t.met (End (outcome 0 (tower ts below) (Given (Number 0)))) (drop_message t (read_message (tower ts below) u e drop_limit)) h

or_right_of : (a b : Bool) → a ≡ false → a || b ≡ true → b ≡ true
or_right_of true b h k = cc
or_right_of false b h k = k

or_parts_of : (a b : Bool) → a || b ≡ false → (a ≡ false) × (b ≡ false)
or_parts_of true b h = cc
or_parts_of false b h = (refl, h)

-- an item under an end that wasn't met
drops_read : (t : TermLayer) (below : List Placed) (u : List ℕ) (e : Bool) (o : Outcome) → t.met ≡ false → read_message below u e 16384 ≡ o → drop_one (Term t ∷ below) u e ≡ drop_message t o
drops_read t below u e o h k = pick_no t.met (End (outcome 0 below (Given (Number 0)))) (drop_message t (read_message below u e drop_limit)) h ∙ ap (drop_message t) k

-- an end below was met before
pub drops_cut : (ts : List TermLayer) (below : List Placed) (u : List ℕ) (e : Bool) → is_top_met ts ≡ false → any_met ts ≡ true → drop_one (tower ts below) u e ≡ Stops (outcome 0 (tower ts below) (Fault Epipe))
drops_cut [] below u e h k = cc
drops_cut (t ∷ ts) below u e h k = drops_read t (tower ts below) u e (outcome 0 (tower ts below) (Fault Epipe)) h (read_met ts below u e 16384 (or_right_of t.met (any_met ts) h k))

pub drops_whole : (ts : List TermLayer) (b : Base) (u : List ℕ) (e : Bool) (x y z : ℕ) → 1 ≤ length ts → IsFraming b → any_met ts ≡ false → front.Whole x y z ≡ base_front b u 16384 → drop_one (tower ts (base_layers b)) u e ≡ sifted (tower ts (base_layers b)) (outcome z [] (Given (Bytes (take (y - x) (drop x u)))))
drops_whole [] b u e x y z l f m h = absurd (omega (arith, l))
drops_whole (t ∷ ts) b u e x y z l f m h =
    let p = or_parts_of t.met (any_met ts) m in
    drops_read t (tower ts (base_layers b)) u e _ p.0 (reads_whole ts b u e 16384 x y z f p.1 h)

stop_if : (t : TermLayer) (below : List Placed) (c : Bool) → drop_message t (outcome 0 below (if c then Fault Epipe else Fault Eproto)) ≡ Stops (outcome 0 (Term t ∷ below) (if c then Fault Epipe else Fault Eproto))
stop_if t below true = refl
stop_if t below false = refl

stop_more : (t : TermLayer) (below : List Placed) (e : Bool) (u : List ℕ) → drop_message t (outcome 0 below (no_more e true u)) ≡ Stops (outcome 0 (Term t ∷ below) (no_more e true u))
stop_more t below false u = refl
stop_more t below true u = stop_if t below (true && length u == 0)

pub drops_need : (ts : List TermLayer) (b : Base) (u : List ℕ) (e : Bool) → 1 ≤ length ts → IsFraming b → any_met ts ≡ false → front.Need ≡ base_front b u 16384 → drop_one (tower ts (base_layers b)) u e ≡ Stops (outcome 0 (tower ts (base_layers b)) (no_more e true u))
drops_need [] b u e l f m h = absurd (omega (arith, l))
drops_need (t ∷ ts) b u e l f m h =
    let p = or_parts_of t.met (any_met ts) m in
    drops_read t (tower ts (base_layers b)) u e _ p.0 (reads_need ts b u e 16384 f p.1 h) ∙ stop_more t (tower ts (base_layers b)) e u

pub drops_fault : (ts : List TermLayer) (b : Base) (u : List ℕ) (e : Bool) (x : Errno) → 1 ≤ length ts → IsFraming b → any_met ts ≡ false → front.Fault x ≡ base_front b u 16384 → drop_one (tower ts (base_layers b)) u e ≡ Stops (outcome 0 (tower ts (base_layers b)) (Fault x))
drops_fault [] b u e x l f m h = absurd (omega (arith, l))
drops_fault (t ∷ ts) b u e x l f m h =
    let p = or_parts_of t.met (any_met ts) m in
    drops_read t (tower ts (base_layers b)) u e _ p.0 (reads_fault ts b u e 16384 x f p.1 h)

-- an end by a terminal message stands on messages, which are those of a framing where no frames stand there
pub framing_under : (ts : List TermLayer) (b : Base) → 1 ≤ length ts → HasBase ts b → ws_of (tower ts (base_layers b)) ≡ None → IsFraming b
framing_under ts b l h p = under b (long ts b l h) (sym (ws_tower ts (base_layers b)) ∙ p)
  where
    long : (ts : List TermLayer) (b : Base) → 1 ≤ length ts → HasBase ts b → HasMessages (base_layers b)
    long [] b l h = absurd (omega (arith, l))
    long (t ∷ ts) base.Bytes l h = cc
    long (t ∷ ts) (base.Prefix form) l h = tt
    long (t ∷ ts) (base.Suffix end) l h = tt
    long (t ∷ ts) (base.Http http) l h = cc
    long (t ∷ ts) (base.Ws framed) l h = tt

    under : (b : Base) → HasMessages (base_layers b) → ws_of (base_layers b) ≡ None → IsFraming b
    under b h k = framed_base b h k

pub top_there : (ts : List TermLayer) (b : Base) → length (ends_of (tower ts (base_layers b))) ≡ length ts
top_there [] base.Bytes = refl
top_there [] (base.Prefix form) = refl
top_there [] (base.Suffix end) = refl
top_there [] (base.Http http) = refl
top_there [] (base.Ws framed) = refl
top_there (t ∷ ts) b = ap suc (top_there ts b)

pub tall_of : (ts : List TermLayer) (b : Base) → 1 ≤ length (ends_of (tower ts (base_layers b))) → 1 ≤ length ts
tall_of ts b h = omega (arith, h, top_there ts b)

pub met_there : (ts : List TermLayer) → is_top_met ts ≡ true → 1 ≤ length ts
met_there [] h = cc
met_there (t ∷ ts) h = omega arith

based_below : (ts : List TermLayer) (b : Base) → HasBase ts b → HasBase (below_top ts) b
based_below ts base.Bytes h = ap below_top h
based_below ts (base.Prefix form) h = tt
based_below ts (base.Suffix end) h = tt
based_below ts (base.Http http) h = ap below_top h
based_below ts (base.Ws framed) h = tt

ends_below : (ts : List TermLayer) (below : List Placed) → HasEnds ts below → HasEnds (below_top ts) below
ends_below [] below h = tt
ends_below (t ∷ ts) below h = h.2

pub stack_below : (ts : List TermLayer) (b : Base) (room : ℕ) → IsTower ts b room → IsTower (below_top ts) b room
stack_below ts b room i = record { fits = i.fits; based = based_below ts b i.based; ends = ends_below ts (base_layers b) i.ends; room = i.room }

pub stack_at : (at : ℕ) (ts : List TermLayer) (b : Base) (room : ℕ) → IsTower ts b room → IsTower (terms_at at ts) b room
stack_at zero ts b room i = stack_below ts b room i
stack_at (suc n) ts b room i = stack_meet (suc n) ts b room i

-- the link alone is left
pub stack_bare : (ts : List TermLayer) (b : Base) (room : ℕ) → ts ≡ [] → IsTower ts b room → IsTower ts base.Bytes room
stack_bare ts b room e i = rw e record { fits = tt; based = refl; ends = tt; room = i.room }

pub head_alone : (ts : List TermLayer) (b : Base) (http : HttpLayer) → tower ts (base_layers b) ≡ Http http ∷ [] → ts ≡ []
head_alone [] b http h = refl
head_alone (t ∷ ts) b http h = cc

-- a framing alone is left at once
pub drops_framing : (ts : List TermLayer) (b : Base) (u : List ℕ) (e : Bool) → ts ≡ [] → ws_of (tower ts (base_layers b)) ≡ None → (b ≡ base.Bytes → ⊥) → ((x : HttpLayer) → b ≡ base.Http x → ⊥) → drop_one (tower ts (base_layers b)) u e ≡ End (outcome 0 [] (Given (Number 0)))
drops_framing ts b u e h p n m = rw h (alone b (sym (ws_tower ts (base_layers b)) ∙ p) n m)
  where
    alone : (b : Base) → ws_of (base_layers b) ≡ None → (b ≡ base.Bytes → ⊥) → ((x : HttpLayer) → b ≡ base.Http x → ⊥) → drop_one (base_layers b) u e ≡ End (outcome 0 [] (Given (Number 0)))
    alone base.Bytes p n m = absurd (n refl)
    alone (base.Prefix form) p n m = refl
    alone (base.Suffix end) p n m = refl
    alone (base.Http http) p n m = absurd (m http refl)
    alone (base.Ws framed) p n m = cc

-- nothing whole is there, or it is refused
pub held_stop : (s : Stocked) (d : Dropped) (r : ReadOut) → d ≡ Stops (outcome 0 s.held.layers r) → s ≡ record s { held = behind (outcome_of d) s.held }
held_stop s d r h = sym (ap (λ x. record s { held = behind (outcome_of x) s.held }) h)

-- what was said tells which of the three it is
pub is_item : (d : Dropped) → step.Item ≡ step_of d → d ≡ Item (outcome_of d)
is_item (Item o) h = refl
is_item (End o) h = cc
is_item (Stops o) h = cc

pub is_end : (d : Dropped) → step.End ≡ step_of d → d ≡ End (outcome_of d)
is_end (Item o) h = cc
is_end (End o) h = refl
is_end (Stops o) h = cc

pub is_stop : (d : Dropped) (r : ReadOut) → step.Stops r ≡ step_of d → (d ≡ Stops (outcome_of d)) × (r ≡ (outcome_of d).said)
is_stop (Item o) r h = cc
is_stop (End o) r h = cc
is_stop (Stops o) r h = let e : r ≡ o.said = cc in (refl, e)

-- an end answers the detach
abbrev pub IsAnswered : Dropped → Type 0
IsAnswered (Item o) = Unit {0}
IsAnswered (End o) = o.said ≡ Given (Number 0)
IsAnswered (Stops o) = Unit {0}

either : (b : Bool) (x y : Dropped) → IsAnswered x → IsAnswered y → IsAnswered (if b then x else y)
either true x y p q = p
either false x y p q = q

message_answered : (t : TermLayer) (o : Outcome) → IsAnswered (drop_message t o)
message_answered t o = either (is_terminal t o.said) (End (left_with o.layers o)) (if is_given o.said then Item (record o { layers = Term t ∷ o.layers }) else Stops (record o { layers = Term t ∷ o.layers })) refl (either (is_given o.said) (Item (record o { layers = Term t ∷ o.layers })) (Stops (record o { layers = Term t ∷ o.layers })) tt tt)

line_answered : (http : HttpLayer) (below : List Placed) (u : List ℕ) (e : Bool) (f : Front) → IsAnswered (drop_line http below u e f)
line_answered http below u e (front.Whole x y z) = either (not (y - x == 0)) (Item (outcome z (received AmongFields http ∷ below) Need)) (if is_first http.receiving then Stops (outcome 0 (Http http ∷ below) (Fault Eproto)) else End (outcome z below (Given (Number 0)))) tt (either (is_first http.receiving) (Stops (outcome 0 (Http http ∷ below) (Fault Eproto))) (End (outcome z below (Given (Number 0)))) tt refl)
line_answered http below u e front.Need = tt
line_answered http below u e (front.Fault x) = tt

frames_answered : (below : List Placed) (o : Outcome) → IsAnswered (drop_frames below o)
frames_answered below o = either (has_met o.layers) (End (left_with below o)) (if is_given o.said then Item o else Stops o) refl (either (is_given o.said) (Item o) (Stops o) tt tt)

pub answered : (layers : List Placed) (u : List ℕ) (e : Bool) → IsAnswered (drop_one layers u e)
answered [] u e = tt
answered (Prefix form ∷ below) u e = refl
answered (Suffix end ∷ below) u e = refl
answered (Term t ∷ below) u e = either t.met (End (outcome 0 below (Given (Number 0)))) (drop_message t (read_message below u e drop_limit)) refl (message_answered t (read_message below u e drop_limit))
answered (Http http ∷ below) u e = either (is_behind http.receiving) (End (outcome 0 below (Given (Number 0)))) (drop_line http below u e (front_of_line u)) refl (line_answered http below u e (front_of_line u))
answered (Ws ws ∷ below) u e = either ws.met (End (outcome 0 below (Given (Number 0)))) (drop_frames below (read_ws below ws u e drop_limit)) refl (frames_answered below (read_ws below ws u e drop_limit))

-- what is dropped of a stack, with so many looks
abbrev pub dropped_by : ℕ → Held → Outcome
dropped_by n s = dropped_within n s.receiving.done s.layers s.unread

pub all_by : (s : Held) → all_dropped s ≡ dropped_by (suc (length s.unread)) s
unfolding dropped
all_by s = refl
