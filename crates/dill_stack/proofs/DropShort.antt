-- Where a detach awaits more bytes, fewer are unread than an item that it drops may have.
use Rattle.std.proofs.Common.{◌≡◌, ◌<◌, ◌≤◌, ◌+◌, ◌-◌, ◌∷◌, ◌∙◌, ◌&&◌, [], sym, ap, refl, subst, arith, ℕ, zero, suc, List, Bool, true, false, not, length, take, drop, if◌then◌else◌}
use Rattle.std.specs.Prelude.{◌==◌, is_some}
use Rattle.std.specs.Option.{unwrap_or}
use Rattle.std.specs.Str.{is_utf8}
use Rattle.std.specs.Prelude.{◌++◌}
use Rattle.std.proofs.lemmas.List.{drop-drop, length-drop}
use Rattle.rand_core.specs.Stream.{Stream}
use Rattle.dill_base.specs.declared.errno.Errno.{Errno}
use Rattle.dill_base.specs.declared.errno.Errno.TheVariants.{Epipe, Eproto}
use Rattle.dill_base.specs.declared.errno.Front.{Front}
use Rattle.dill_base.specs.declared.errno.Front.TheVariants as front
use Rattle.dill_calls.specs.declared.answer.Answer.{Answer}
use Rattle.dill_calls.specs.declared.answer.Answer.TheVariants.{Bytes, Number}
use Rattle.dill_frames.specs.Laws.{PrefixLaws, SuffixLaws}
use Rattle.dill_frames.specs.Prefix.{prefix_front}
use Rattle.dill_frames.specs.Suffix.{suffix_front}
use Rattle.dill_http.specs.Laws.{LineLaws}
use Rattle.dill_http.specs.Lines.{front_of_line}
use Rattle.dill_ws.specs.Closing.{close_of}
use Rattle.dill_stack.specs.declared.placed.Base.{Base}
use Rattle.dill_stack.specs.declared.placed.Base.TheVariants as base
use Rattle.dill_stack.specs.declared.want.ReadOut.TheVariants.{Given, Need, Fault}
use Rattle.dill_stack.specs.Layers.{TermLayer, HttpLayer, WsLayer, Placed, Prefix, Suffix, Term, Http, Ws, AmongFields, is_first, is_behind}
use Rattle.dill_stack.specs.Held.{Held, Idle}
use Rattle.dill_stack.specs.WsReading.{Passed, passed, Shown, shown, shown_by, message_of, close_met, WsFront, Whole, Short, Refused, ws_front}
use Rattle.dill_stack.specs.Read.{Outcome, outcome, no_more, by_front, behind_passed, read_ws, is_terminal, over_term, read_message, received}
use Rattle.dill_stack.specs.Dropping.{Dropped, Item, End, Stops, drop_limit, is_given, left_with, drop_message, has_met, drop_frames, drop_line, drop_one, after_drop, dropped_within, dropped}
use Rattle.dill_stack.specs.Parting.{left_over, detach_finish}
use Rattle.dill_stack.specs.Receiving.{Looked, ws_of, looked_over}
use Rattle.dill_stack.specs.Sending.{is_sent}
use Rattle.dill_stack.specs.Standing.{tower, base_layers, FitsBase, HasBase, IsBounded, IsDroppable}
use Rattle.dill_stack.proofs.Again.{pongs_queue, close_said, message_said}
use Rattle.dill_stack.proofs.DropAgain.{ws_gives, line_sized}
use Rattle.dill_stack.proofs.FrameShort.{ws_short}

not_fault : {A : Type 0} (e : Errno) → Fault e ≡ Need → A
not_fault e h = absurd (never h)
  where
    never : Fault e ≡ Need → ⊥
    never h = cc

not_answer : {A : Type 0} (a : Answer) → Given a ≡ Need → A
not_answer a h = absurd (never h)
  where
    never : Given a ≡ Need → ⊥
    never h = cc

no_answer : {A : Type 0} → false ≡ true → A
no_answer h = absurd (never h)
  where
    never : false ≡ true → ⊥
    never h = cc

-- what is read leaves few bytes where it awaits more, and uses one where it answers
record Fine (most : ℕ) (u : List ℕ) (o : Outcome) : Type 0 where
  short : o.said ≡ Need → length (drop o.used u) < most
  given : is_given o.said ≡ true → (1 ≤ o.used) × (1 ≤ length u)
  stays : IsBounded o.layers

none_given : (ended boundary : Bool) (u : List ℕ) → is_given (no_more ended boundary u) ≡ true → ⊥
none_given false boundary u h = cc
none_given true boundary u h = at (boundary && length u == 0) h
  where
    at : (b : Bool) → is_given (if b then Fault Epipe else Fault Eproto) ≡ true → ⊥
    at true h = cc
    at false h = cc

front_fine : (most : ℕ) (layers : List Placed) (u : List ℕ) (ended : Bool) (f : Front) → (f ≡ front.Need → length u < most) → ((x y z : ℕ) → f ≡ front.Whole x y z → (1 ≤ z) × (z ≤ length u)) → IsBounded layers → Fine most u (by_front layers u ended f)
front_fine most layers u ended (front.Whole x y z) n w k = record { short = λ h. not_answer (Bytes (take (y - x) (drop x u))) h; given = λ h. let p = w x y z refl in (p.0, omega (arith, p.0, p.1)); stays = k }
front_fine most layers u ended front.Need n w k = record { short = λ h. n refl; given = λ h. absurd (none_given ended true u h); stays = k }
front_fine most layers u ended (front.Fault e) n w k = record { short = λ h. not_fault e h; given = λ h. no_answer h; stays = k }

over_fine : (most : ℕ) (t : TermLayer) (u : List ℕ) (o : Outcome) (b : Bool) → Fine most u o → Fine most u (if b then record o { layers = Term (record t { met = true }) ∷ o.layers; said = Fault Epipe } else record o { layers = Term t ∷ o.layers })
over_fine most t u o true f = record { short = λ h. not_fault Epipe h; given = λ h. no_answer h; stays = f.stays }
over_fine most t u o false f = record { short = f.short; given = f.given; stays = f.stays }

pub shown_short : (limit : ℕ) (ended : Bool) (ws : WsLayer) (u : List ℕ) → (shown limit ended ws u).said ≡ Need → (ws_front limit ws u ≡ Short) × ((shown limit ended ws u).used ≡ 0)
unfolding shown
shown_short limit ended ws u e = by (ws_front limit ws u) e
  where
    by : (f : WsFront) → (shown_by ended ws u f).said ≡ Need → (f ≡ Short) × ((shown_by ended ws u f).used ≡ 0)
    by (Whole part used) g = absurd (at (part.opcode == 8) g)
      where
        at : (b : Bool) → (if b then close_met ws part used else message_of ws part used).said ≡ Need → ⊥
        at true h = close_said (is_some (close_of part.payload)) _ _ refl refl h
        at false h = message_said (unwrap_or ws.joining part.opcode == 1 && not (is_utf8 (ws.joined ++ part.payload))) _ _ _ refl refl h
    by Short g = (refl, refl)
    by (Refused x) g = cc

ws_fine : (below : List Placed) (ws : WsLayer) (u : List ℕ) (ended : Bool) → Fine 16416 u (read_ws below ws u ended 16384)
ws_fine below ws u ended = at ws.met
  where
    p : Passed
    p = passed 16384 ws u

    s : Shown
    s = shown 16384 ended p.ws (drop p.used u)

    few : s.said ≡ Need → length (drop (p.used + s.used) u) < 16416
    few h =
        let n = shown_short 16384 ended p.ws (drop p.used u) h in
        let l : length (drop p.used u) < 16398 = ws_short 16384 p.ws (drop p.used u) n.0 in
        let z : s.used ≡ 0 = n.1 in
        let same : p.used + s.used ≡ p.used = omega (arith, z) in
        subst (λ k. length (drop k u) < 16416) (sym same) (omega (arith, l))

    some : is_given s.said ≡ true → (1 ≤ p.used + s.used) × (1 ≤ length u)
    some h = let g = ws_gives 16384 ended p.ws (drop p.used u) h in (omega (arith, g.0), omega (arith, g.1, length-drop p.used u))

    at : (m : Bool) → Fine 16416 u (if m then outcome 0 (Ws ws ∷ below) (Fault Epipe) else behind_passed below p s)
    at true = record { short = λ h. not_fault Epipe h; given = λ h. no_answer h; stays = tt }
    at false = record { short = few; given = some; stays = tt }

message_fine : (p : PrefixLaws) (s : SuffixLaws) (layers : List Placed) (u : List ℕ) (ended : Bool) → IsBounded layers → Fine 16416 u (read_message layers u ended 16384)
message_fine p s [] u ended k = absurd k
message_fine p s (Prefix form ∷ below) u ended k = front_fine 16416 (Prefix form ∷ below) u ended (prefix_front form u 16384) (λ h. let l = p.waits form u 16384 h in omega (arith, l, k.1)) (λ x y z h. let t = p.takes form u 16384 x y z h in let l = (p.lies form u 16384 x y z h).there in (omega (arith, t, k.0), l)) k
message_fine p s (Suffix end ∷ below) u ended k = front_fine 16416 (Suffix end ∷ below) u ended (suffix_front end u 16384) (λ h. let l = s.waits end u 16384 h in omega (arith, l, k.1)) (λ x y z h. let t = s.takes end u 16384 x y z h in let l = (s.lies end u 16384 x y z h).there in (omega (arith, t, k.0), l)) k
message_fine p s (Term t ∷ below) u ended k = at t.met (message_fine p s below u ended k)
  where
    at : (b : Bool) → Fine 16416 u (read_message below u ended 16384) → Fine 16416 u (if b then outcome 0 (Term t ∷ below) (Fault Epipe) else over_term t (read_message below u ended 16384))
    at true f = record { short = λ h. not_fault Epipe h; given = λ h. no_answer h; stays = k }
    at false f = over_fine 16416 t u (read_message below u ended 16384) (is_terminal t (read_message below u ended 16384).said) f
message_fine p s (Http http ∷ below) u ended k = absurd k
message_fine p s (Ws ws ∷ below) u ended k = ws_fine below ws u ended

-- one item
abbrev pub StepFine : List ℕ → Dropped → Type 0
StepFine u (Item o) = (1 ≤ o.used) × (1 ≤ length u) × IsDroppable o.layers
StepFine u (End o) = o.said ≡ Given (Number 0)
StepFine u (Stops o) = o.said ≡ Need → length (drop o.used u) < 16416

droppable : (layers : List Placed) → IsBounded layers → IsDroppable layers
droppable [] k = k
droppable (Prefix form ∷ below) k = k
droppable (Suffix end ∷ below) k = k
droppable (Term t ∷ below) k = k
droppable (Http http ∷ below) k = tt
droppable (Ws ws ∷ below) k = k

sent_fine : (t : TermLayer) (u : List ℕ) (o : Outcome) → Fine 16416 u o → StepFine u (drop_message t o)
sent_fine t u o f = at (is_terminal t o.said) (is_given o.said) refl
  where
    at : (b g : Bool) → is_given o.said ≡ g → StepFine u (if b then End (left_with o.layers o) else if g then Item (record o { layers = Term t ∷ o.layers }) else Stops (record o { layers = Term t ∷ o.layers }))
    at true g e = refl
    at false true e = let x = f.given e in (x.0, x.1, f.stays)
    at false false e = f.short

frames_fine : (below : List Placed) (u : List ℕ) (o : Outcome) → Fine 16416 u o → StepFine u (drop_frames below o)
frames_fine below u o f = at (has_met o.layers) (is_given o.said) refl
  where
    at : (b g : Bool) → is_given o.said ≡ g → StepFine u (if b then End (left_with below o) else if g then Item o else Stops o)
    at true g e = refl
    at false true e = let x = f.given e in (x.0, x.1, droppable o.layers f.stays)
    at false false e = f.short

line_fine : (l : LineLaws) (http : HttpLayer) (below : List Placed) (u : List ℕ) (ended : Bool) (f : Front) → front_of_line u ≡ f → StepFine u (drop_line http below u ended f)
line_fine l http below u ended (front.Whole x y z) e = at (not (y - x == 0)) (is_first http.receiving)
  where
    at : (a b : Bool) → StepFine u (if a then Item (outcome z (received AmongFields http ∷ below) Need) else if b then Stops (outcome 0 (Http http ∷ below) (Fault Eproto)) else End (outcome z below (Given (Number 0))))
    at true b = let s = line_sized u x y z e in (s.0, s.1, tt)
    at false true = λ h. not_fault Eproto h
    at false false = refl
line_fine l http below u ended front.Need e = λ h. let k = l.waits u e in omega (arith, k)
line_fine l http below u ended (front.Fault x) e = λ h. not_fault x h

pub one_fine : (p : PrefixLaws) (s : SuffixLaws) (l : LineLaws) (layers : List Placed) (u : List ℕ) (ended : Bool) → IsDroppable layers → StepFine u (drop_one layers u ended)
one_fine p s l [] u ended k = absurd k
one_fine p s l (Prefix form ∷ below) u ended k = refl
one_fine p s l (Suffix end ∷ below) u ended k = refl
one_fine p s l (Term t ∷ below) u ended k = at t.met
  where
    at : (b : Bool) → StepFine u (if b then End (outcome 0 below (Given (Number 0))) else drop_message t (read_message below u ended drop_limit))
    at true = refl
    at false = sent_fine t u (read_message below u ended 16384) (message_fine p s below u ended k)
one_fine p s l (Http http ∷ below) u ended k = at (is_behind http.receiving)
  where
    at : (b : Bool) → StepFine u (if b then End (outcome 0 below (Given (Number 0))) else drop_line http below u ended (front_of_line u))
    at true = refl
    at false = line_fine l http below u ended (front_of_line u) refl
one_fine p s l (Ws ws ∷ below) u ended k = at ws.met
  where
    at : (b : Bool) → StepFine u (if b then End (outcome 0 below (Given (Number 0))) else drop_frames below (read_ws below ws u ended drop_limit))
    at true = refl
    at false = frames_fine below u (read_ws below ws u ended 16384) (ws_fine below ws u ended)

abbrev Leaves : List ℕ → Outcome → Type 0
Leaves u o = o.said ≡ Need → length (drop o.used u) < 16416

within_short : (p : PrefixLaws) (s : SuffixLaws) (l : LineLaws) (most : ℕ) (ended : Bool) (layers : List Placed) (u : List ℕ) → IsDroppable layers → length u < most → Leaves u (dropped_within most ended layers u)
within_short p s l zero ended layers u k m = absurd (omega (arith, m))
within_short p s l (suc most) ended layers u k m = at (drop_one layers u ended) (one_fine p s l layers u ended k) (within_short p s l most ended)
  where
    at : (d : Dropped) → StepFine u d → ((below : List Placed) (v : List ℕ) → IsDroppable below → length v < most → Leaves v (dropped_within most ended below v)) → Leaves u (after_drop (dropped_within most ended) u d)
    at (Item o) f again = λ h. subst (λ v. length v < 16416) (drop-drop (dropped_within most ended o.layers (drop o.used u)).used o.used u) (again o.layers (drop o.used u) f.2 (omega (arith, m, f.0, f.1, length-drop o.used u)) h)
    at (End o) f again = λ h. not_answer (Number 0) (sym f ∙ h)
    at (Stops o) f again = f

dropped_short : (p : PrefixLaws) (s : SuffixLaws) (l : LineLaws) (layers : List Placed) (u : List ℕ) (ended : Bool) → IsDroppable layers → Leaves u (dropped layers u ended)
unfolding dropped
dropped_short p s l layers u ended k = within_short p s l (suc (length u)) ended layers u k (omega arith)

-- a detach's look
abbrev FinishShort : Looked → Type 0
FinishShort l = l.said ≡ Need → is_sent l.stack ≡ true → length l.stack.unread < 16416

left_short : (l : Looked) → (l.said ≡ Need → length l.stack.unread < 16416) → FinishShort (left_over l)
left_short l f = at (is_given l.said)
  where
    at : (b : Bool) → FinishShort (if b then record l { stack = record l.stack { task = Idle } } else l)
    at true = λ h k. f h
    at false = λ h k. f h

looks_short : (p : PrefixLaws) (s : SuffixLaws) (l : LineLaws) (random : Stream) (t : Held) → IsDroppable t.layers → FinishShort (detach_finish random t)
unfolding detach_finish
looks_short p s l random t k = at (is_sent t) refl
  where
    o : Outcome
    o = dropped t.layers t.unread t.receiving.done

    gone : o.said ≡ Need → length (looked_over o random t).stack.unread < 16416
    gone h = subst (λ v. length v < 16416) (sym (pongs_queue (ws_of t.layers) o.pings random (record t { layers = o.layers; unread = drop o.used t.unread })).unread) (dropped_short p s l t.layers t.unread t.receiving.done k h)

    at : (b : Bool) → is_sent t ≡ b → FinishShort (if b then left_over (looked_over o random t) else record { stack = t; said = Need; random = random })
    at true e = left_short (looked_over o random t) gone
    at false e = λ h x. no_answer (sym e ∙ x)

pub finish_short : (p : PrefixLaws) (s : SuffixLaws) (l : LineLaws) (random : Stream) (t now : Held) → IsDroppable t.layers → now ≡ (detach_finish random t).stack → (detach_finish random t).said ≡ Need → is_sent now ≡ true → length now.unread < 16416
finish_short p s l random t now k e h x =
    let all : FinishShort (detach_finish random t) = looks_short p s l random t k in
    subst (λ (y : Held). length y.unread < 16416) (sym e) (all h (ap is_sent (sym e) ∙ x))

-- a detach takes leave of the layers of a stack
pub tower_droppable : (ts : List TermLayer) (b : Base) → FitsBase b → HasBase ts b → 1 ≤ length (tower ts (base_layers b)) → IsDroppable (tower ts (base_layers b))
tower_droppable [] base.Bytes f h l = absurd (omega (arith, l))
tower_droppable [] (base.Prefix form) f h l = f
tower_droppable [] (base.Suffix end) f h l = f
tower_droppable [] (base.Http http) f h l = tt
tower_droppable [] (base.Ws framed) f h l = tt
tower_droppable (t ∷ ts) b f h l = bounded (t ∷ ts) b f h (omega arith)
  where
    bounded : (ts : List TermLayer) (b : Base) → FitsBase b → HasBase ts b → 1 ≤ length ts → IsBounded (tower ts (base_layers b))
    bounded [] b f h l = absurd (omega (arith, l))
    bounded (t ∷ ts) base.Bytes f h l = cc
    bounded (t ∷ ts) (base.Http http) f h l = cc
    bounded (t ∷ []) (base.Prefix form) f h l = f
    bounded (t ∷ x ∷ ts) (base.Prefix form) f h l = bounded (x ∷ ts) (base.Prefix form) f tt (omega arith)
    bounded (t ∷ []) (base.Suffix end) f h l = f
    bounded (t ∷ x ∷ ts) (base.Suffix end) f h l = bounded (x ∷ ts) (base.Suffix end) f tt (omega arith)
    bounded (t ∷ []) (base.Ws framed) f h l = tt
    bounded (t ∷ x ∷ ts) (base.Ws framed) f h l = bounded (x ∷ ts) (base.Ws framed) f tt (omega arith)
