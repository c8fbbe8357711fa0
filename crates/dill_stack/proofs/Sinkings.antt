-- What a detach drops behind a pass, or behind an item, is what it drops before it.
use Rattle.std.proofs.Common.{◌≡◌, ◌<◌, ◌≤◌, ◌+◌, ◌-◌, ◌∷◌, ◌++◌, ◌∙◌, ◌&&◌, ◌||◌, [], sym, ap, refl, subst, arith, ℕ, zero, suc, List, Bool, true, false, not, length, drop, append_assoc, Option, Some, None, if◌then◌else◌}
use Rattle.std.specs.Prelude.{◌==◌, is_some}
use Rattle.std.specs.Option.{unwrap_or}
use Rattle.std.specs.Str.{is_utf8}
use Rattle.std.proofs.lemmas.List.{drop-drop, length-drop}
use Rattle.rand_core.specs.Stream.{Stream}
use Rattle.dill_base.specs.declared.errno.Errno.TheVariants.{Epipe, Eproto}
use Rattle.dill_base.specs.declared.errno.Front.{Front}
use Rattle.dill_base.specs.declared.errno.Front.TheVariants as front
use Rattle.dill_calls.specs.declared.answer.Answer.TheVariants.{Number}
use Rattle.dill_frames.specs.Laws.{PrefixLaws, SuffixLaws}
use Rattle.dill_frames.specs.Prefix.{prefix_front}
use Rattle.dill_frames.specs.Suffix.{suffix_front}
use Rattle.dill_http.specs.Laws.{LineLaws}
use Rattle.dill_http.specs.Lines.{front_of_line}
use Rattle.dill_ws.specs.declared.side.Side.{Side}
use Rattle.dill_ws.specs.Closing.{close_of}
use Rattle.dill_stack.specs.declared.dropping.DropStep.{DropStep}
use Rattle.dill_stack.specs.declared.dropping.DropStep.TheVariants as step
use Rattle.dill_stack.specs.declared.want.ReadOut.{ReadOut}
use Rattle.dill_stack.specs.declared.want.ReadOut.TheVariants.{Given, Need, Fault}
use Rattle.dill_stack.specs.Layers.{TermLayer, WsLayer, HttpLayer, Placed, Prefix, Suffix, Term, Http, Ws, IsStanding, AmongFields, is_first, is_behind}
use Rattle.dill_stack.specs.Held.{Held}
use Rattle.dill_stack.specs.Rooms.{Stocked}
use Rattle.dill_stack.specs.WsReading.{Passed, passed, pass_by_front, ws_front, WsFront, Whole, Short, Refused, Shown, shown, shown_by, close_met, message_of}
use Rattle.dill_stack.specs.Read.{Outcome, outcome, by_front, behind_passed, is_terminal, over_term, read_message, read_ws, received}
use Rattle.dill_stack.specs.Receiving.{Looked, ws_of, answers_pings, with_pongs_of, ponged, looked_over}
use Rattle.dill_stack.specs.Refusals.{is_met}
use Rattle.dill_stack.specs.Dropping.{Dropped, Item, End, Stops, drop_limit, is_given, left_with, drop_message, has_met, drop_frames, drop_line, drop_one, further, after_drop, dropped_within}
use Rattle.dill_stack.specs.Leaving.{next_dropped, outcome_of, step_of}
use Rattle.dill_stack.specs.Standing.{IsDroppable}
use Rattle.dill_stack.specs.Stepping.{pass_of_ws, next_pass, with_ws, stepped, behind_pass}
use Rattle.dill_stack.specs.Taking.{behind}
use Rattle.dill_stack.specs.Framing.{HasStepped}
use Rattle.dill_stack.specs.Sinking.{look_within, GoesOn, StopsWith, Sinks}
use Rattle.dill_stack.proofs.Again.{passed_nothing}
use Rattle.dill_stack.proofs.DropShort.{StepFine, one_fine}
use Rattle.dill_stack.proofs.Drops.{IsAnswered, is_item, is_end, is_stop, answered}
use Rattle.dill_stack.proofs.Sifts.{behind_item}
use Rattle.dill_stack.proofs.StepReads.{Moves, moves, IsPass, is_pass, Left, step_left, looked_step, message_step, ws_step}

-- an item behind a pass
abbrev pub pass_in : Passed → Dropped → Dropped
pass_in p (Item o) = Item (behind_pass p o)
pass_in p (End o) = End (behind_pass p o)
pass_in p (Stops o) = Stops (behind_pass p o)

or_none : (a b : Bool) → (a || b) ≡ false → (a ≡ false) × (b ≡ false)
or_none true b e = cc
or_none false b e = (refl, e)

pick_no : (b : Bool) (x y : Dropped) → b ≡ false → (if b then x else y) ≡ y
pick_no true x y e = cc
pick_no false x y e = refl

no_pass : {A : Type 0} (below : List Placed) (u : List ℕ) (p : Passed) → below ≡ [] → pass_of_ws 16384 u (ws_of below) ≡ Some p → A
no_pass [] u p k e = cc
no_pass (y ∷ below) u p k e = cc

message_pass : (t : TermLayer) (p : Passed) (o : Outcome) → drop_message t (behind_pass p o) ≡ pass_in p (drop_message t o)
message_pass t p o = at (is_terminal t o.said) (is_given o.said)
  where
    at : (a b : Bool) → (if a then End (left_with o.layers (behind_pass p o)) else if b then Item (record (behind_pass p o) { layers = Term t ∷ o.layers }) else Stops (record (behind_pass p o) { layers = Term t ∷ o.layers })) ≡ pass_in p (if a then End (left_with o.layers o) else if b then Item (record o { layers = Term t ∷ o.layers }) else Stops (record o { layers = Term t ∷ o.layers }))
    at true b = refl
    at false true = refl
    at false false = refl

frames_pass : (below : List Placed) (p : Passed) (o : Outcome) → drop_frames below (behind_pass p o) ≡ pass_in p (drop_frames below o)
frames_pass below p o = at (has_met o.layers) (is_given o.said)
  where
    at : (a b : Bool) → (if a then End (left_with below (behind_pass p o)) else if b then Item (behind_pass p o) else Stops (behind_pass p o)) ≡ pass_in p (if a then End (left_with below o) else if b then Item o else Stops o)
    at true b = refl
    at false true = refl
    at false false = refl

one_step : (layers : List Placed) (u : List ℕ) (ended : Bool) (p : Passed) → IsStanding layers → is_met layers ≡ false → pass_of_ws 16384 u (ws_of layers) ≡ Some p → drop_one layers u ended ≡ pass_in p (drop_one (with_ws p.ws layers) (drop p.used u) ended)
one_step [] u ended p k m e = cc
one_step (Prefix form ∷ below) u ended p k m e = no_pass below u p k e
one_step (Suffix end ∷ below) u ended p k m e = no_pass below u p k e
one_step (Http http ∷ below) u ended p k m e = no_pass below u p k e
one_step (Term t ∷ below) u ended p k m e =
    let n = or_none t.met (is_met below) m in
    pick_no t.met _ _ n.0
    ∙ ap (drop_message t) (message_step below u ended 16384 p k.1 n.1 e)
    ∙ message_pass t p (read_message (with_ws p.ws below) (drop p.used u) ended 16384)
    ∙ ap (pass_in p) (sym (pick_no t.met _ _ n.0))
one_step (Ws ws ∷ below) u ended p k m e =
    let n = or_none ws.met (is_met below) m in
    let i : Moves ws u p = moves 16384 ws u p e in
    pick_no ws.met _ _ n.0
    ∙ ap (drop_frames below) (ws_step below ws u ended 16384 p n.0 e)
    ∙ frames_pass below p (read_ws below p.ws (drop p.used u) ended 16384)
    ∙ ap (pass_in p) (sym (pick_no p.ws.met _ _ (i.met ∙ n.0)))

further_pass : (p : Passed) (o q : Outcome) → further (behind_pass p o) q ≡ behind_pass p (further o q)
further_pass p o q =
    let e : (p.used + o.used) + q.used ≡ p.used + (o.used + q.used) = omega arith in
    ap (λ n. let x : Outcome = record { used = n; layers = q.layers; pings = (p.pings ++ o.pings) ++ q.pings; said = q.said } in x) e
    ∙ ap (λ s. let x : Outcome = record { used = p.used + (o.used + q.used); layers = q.layers; pings = s; said = q.said } in x) (append_assoc p.pings o.pings q.pings)

after_pass_in : (again : List Placed → List ℕ → Outcome) (u : List ℕ) (p : Passed) (d : Dropped) → after_drop again u (pass_in p d) ≡ behind_pass p (after_drop again (drop p.used u) d)
after_pass_in again u p (Item o) = ap (λ v. further (behind_pass p o) (again o.layers v)) (sym (drop-drop o.used p.used u)) ∙ further_pass p o (again o.layers (drop o.used (drop p.used u)))
after_pass_in again u p (End o) = refl
after_pass_in again u p (Stops o) = refl

within_step : (n : ℕ) (layers : List Placed) (u : List ℕ) (ended : Bool) (p : Passed) → IsStanding layers → is_met layers ≡ false → pass_of_ws 16384 u (ws_of layers) ≡ Some p → dropped_within (suc n) ended layers u ≡ behind_pass p (dropped_within (suc n) ended (with_ws p.ws layers) (drop p.used u))
within_step n layers u ended p k m e = ap (after_drop (dropped_within n ended) u) (one_step layers u ended p k m e) ∙ after_pass_in (dropped_within n ended) u p (drop_one (with_ws p.ws layers) (drop p.used u) ended)

pub look_step : (n : ℕ) (random : Stream) (s : Held) (p : Passed) → IsStanding s.layers → next_pass 16384 s ≡ Some p → look_within (suc n) random s ≡ look_within (suc n) (stepped p random s).1 (stepped p random s).0
look_step n random s p k e =
    let i : IsPass 16384 s p = is_pass 16384 s p e in
    let t : Held = (stepped p random s).0 in
    let left : Left p s t = step_left p random s in
    let o : Outcome = dropped_within (suc n) s.receiving.done (with_ws p.ws s.layers) (drop p.used s.unread) in
    let same : o ≡ dropped_within (suc n) t.receiving.done t.layers t.unread = ap (λ l. dropped_within (suc n) s.receiving.done l (drop p.used s.unread)) (sym left.layers) ∙ ap (λ u. dropped_within (suc n) s.receiving.done t.layers u) (sym left.unread) ∙ ap (λ d. dropped_within (suc n) d t.layers t.unread) (sym (ap (λ r. r.done) left.receiving)) in
    ap (λ (x : Outcome). looked_over x random s) (within_step n s.layers s.unread s.receiving.done p k i.unmet (ap (pass_of_ws 16384 s.unread) i.there ∙ i.pass))
    ∙ looked_step o p random s i.ws i.there (moves 16384 i.ws s.unread p i.pass)
    ∙ ap (λ (x : Outcome). looked_over x (stepped p random s).1 t) same

suc_of : (n k : ℕ) → k < n → (m : ℕ) × (n ≡ suc m)
suc_of zero k l = absurd (omega (arith, l))
suc_of (suc m) k l = (m, refl)

-- a pass of a detach goes on
pub pass_goes_on : (before now : Stocked) (random left : Stream) → IsStanding before.held.layers → HasStepped 16384 before now random left → GoesOn before now random left
pass_goes_on before now random left k h =
    let i : IsPass 16384 before.held h.p = is_pass 16384 before.held h.p h.pass in
    let w : Moves i.ws before.held.unread h.p = moves 16384 i.ws before.held.unread h.p i.pass in
    let t : Held = (stepped h.p random before.held).0 in
    let l : Left h.p before.held t = step_left h.p random before.held in
    let held : now.held ≡ t = ap {A = Stocked} (λ s. s.held) h.now_is in
    let size : length now.held.unread ≡ length before.held.unread - h.p.used = ap {A = Held} (λ s. length s.unread) held ∙ ap length l.unread ∙ length-drop h.p.used before.held.unread in
    record {
      same = λ n f.
          let s : (m : ℕ) × (n ≡ suc m) = suc_of n (length before.held.unread) f in (
            n,
            omega (arith, f, size),
            ap (λ x. look_within x random before.held) s.1
                ∙ look_step s.0 random before.held h.p k h.pass
                ∙ ap (λ x. look_within x (stepped h.p random before.held).1 t) (sym s.1)
                ∙ ap (λ r. look_within n r t) (sym h.left_is)
                ∙ ap {A = Held} (λ x. look_within n left x) (sym held),
          );
      less = omega (arith, size, w.some, w.there);
      rest = h.now_is ∙ ap {A = Held} (λ x. record before { held = x }) (sym held);
    }

-- ---- an item, where nothing is passed

-- the same WebSocket layer, or none
abbrev pub SameWs : Option WsLayer → Option WsLayer → Type 0
SameWs None None = Unit {0}
SameWs None (Some x) = ⊥
SameWs (Some ws) None = ⊥
SameWs (Some ws) (Some x) = (x.side ≡ ws.side) × (x.closed ≡ ws.closed)

same_ws : (o : Option WsLayer) → SameWs o o
same_ws None = tt
same_ws (Some ws) = (refl, refl)

abbrev pongs_by : Bool → Side → List (List ℕ) → Stream → Held → Held × Stream
pongs_by c side pings random s = if c then (record s { queue = (ponged side pings (s.queue, random)).0 }, (ponged side pings (s.queue, random)).1) else (s, random)

pongs_alike : (o x : Option WsLayer) (pings : List (List ℕ)) (random : Stream) (s : Held) → SameWs o x → with_pongs_of o pings random s ≡ with_pongs_of x pings random s
pongs_alike None None pings random s e = refl
pongs_alike None (Some x) pings random s e = absurd e
pongs_alike (Some ws) None pings random s e = absurd e
pongs_alike (Some ws) (Some x) pings random s e = ap (λ c. pongs_by (not c && not s.sending.broken && not s.sending.done) ws.side pings random s) (sym e.1) ∙ ap (λ side. pongs_by (answers_pings x s) side pings random s) (sym e.0)

-- nothing was passed, and the layer stays
pub record Quiet (layers : List Placed) (o : Outcome) : Type 0 where
  pub pings : o.pings ≡ []
  pub stays : SameWs (ws_of layers) (ws_of o.layers)

shown_stays : (limit : ℕ) (ended : Bool) (ws : WsLayer) (u : List ℕ) → ((shown limit ended ws u).ws.side ≡ ws.side) × ((shown limit ended ws u).ws.closed ≡ ws.closed)
unfolding shown
shown_stays limit ended ws u = by (ws_front limit ws u)
  where
    if_stays : (b : Bool) (x y : Shown) → (x.ws.side ≡ ws.side) × (x.ws.closed ≡ ws.closed) → (y.ws.side ≡ ws.side) × (y.ws.closed ≡ ws.closed) → ((if b then x else y).ws.side ≡ ws.side) × ((if b then x else y).ws.closed ≡ ws.closed)
    if_stays true x y p q = p
    if_stays false x y p q = q

    by : (f : WsFront) → ((shown_by ended ws u f).ws.side ≡ ws.side) × ((shown_by ended ws u f).ws.closed ≡ ws.closed)
    by (Whole part used) = if_stays (part.opcode == 8) (close_met ws part used) (message_of ws part used) (if_stays (is_some (close_of part.payload)) _ _ (refl, refl) (refl, refl)) (if_stays (unwrap_or ws.joining part.opcode == 1 && not (is_utf8 (ws.joined ++ part.payload))) _ _ (refl, refl) (refl, refl))
    by Short = (refl, refl)
    by (Refused x) = (refl, refl)

ws_quiet : (below : List Placed) (ws : WsLayer) (u : List ℕ) (ended : Bool) → (ws.met ≡ false → pass_by_front ws (ws_front 16384 ws u) ≡ None) → Quiet (Ws ws ∷ below) (read_ws below ws u ended 16384)
ws_quiet below ws u ended n = at ws.met refl
  where
    p : Passed
    p = passed 16384 ws u

    unmet : ws.met ≡ false → Quiet (Ws ws ∷ below) (behind_passed below p (shown 16384 ended p.ws (drop p.used u)))
    unmet m = subst (λ (x : Passed). Quiet (Ws ws ∷ below) (behind_passed below x (shown 16384 ended x.ws (drop x.used u)))) (sym (passed_nothing 16384 ws u (n m))) (record { pings = refl; stays = shown_stays 16384 ended ws (drop 0 u) })

    at : (b : Bool) → ws.met ≡ b → Quiet (Ws ws ∷ below) (if b then outcome 0 (Ws ws ∷ below) (Fault Epipe) else behind_passed below p (shown 16384 ended p.ws (drop p.used u)))
    at true e = record { pings = refl; stays = (refl, refl) }
    at false e = unmet e

front_quiet : (layers : List Placed) (u : List ℕ) (ended : Bool) (f : Front) → Quiet layers (by_front layers u ended f)
front_quiet layers u ended (front.Whole x y z) = record { pings = refl; stays = same_ws (ws_of layers) }
front_quiet layers u ended front.Need = record { pings = refl; stays = same_ws (ws_of layers) }
front_quiet layers u ended (front.Fault e) = record { pings = refl; stays = same_ws (ws_of layers) }

-- nothing is passed by the WebSocket layer, unless an end was met
abbrev pub Passless : List Placed → List ℕ → Type 0
Passless layers u = is_met layers ≡ false → pass_of_ws 16384 u (ws_of layers) ≡ None

over_quiet : (t : TermLayer) (below : List Placed) (o : Outcome) → Quiet below o → Quiet (Term t ∷ below) (over_term t o)
over_quiet t below o q = at (is_terminal t o.said)
  where
    at : (b : Bool) → Quiet (Term t ∷ below) (if b then record o { layers = Term (record t { met = true }) ∷ o.layers; said = Fault Epipe } else record o { layers = Term t ∷ o.layers })
    at true = record { pings = q.pings; stays = q.stays }
    at false = record { pings = q.pings; stays = q.stays }

read_quiet : (layers : List Placed) (u : List ℕ) (ended : Bool) → IsStanding layers → Passless layers u → Quiet layers (read_message layers u ended 16384)
read_quiet [] u ended k n = record { pings = refl; stays = tt }
read_quiet (Prefix form ∷ below) u ended k n = front_quiet (Prefix form ∷ below) u ended (prefix_front form u 16384)
read_quiet (Suffix end ∷ below) u ended k n = front_quiet (Suffix end ∷ below) u ended (suffix_front end u 16384)
read_quiet (Http http ∷ below) u ended k n = record { pings = refl; stays = same_ws (ws_of below) }
read_quiet (Ws ws ∷ below) u ended k n = bare below k n
  where
    bare : (below : List Placed) → below ≡ [] → Passless (Ws ws ∷ below) u → Quiet (Ws ws ∷ below) (read_ws below ws u ended 16384)
    bare [] k n = ws_quiet [] ws u ended (λ m. n (ap (λ b. b || false) m))
    bare (y ∷ below) k n = cc
read_quiet (Term t ∷ below) u ended k n = at t.met refl (read_quiet below u ended k.1)
  where
    at : (b : Bool) → t.met ≡ b → (Passless below u → Quiet below (read_message below u ended 16384)) → Quiet (Term t ∷ below) (if b then outcome 0 (Term t ∷ below) (Fault Epipe) else over_term t (read_message below u ended 16384))
    at true e again = record { pings = refl; stays = same_ws (ws_of below) }
    at false e again = over_quiet t below (read_message below u ended 16384) (again (λ m. n (ap (λ b. b || is_met below) e ∙ m)))

-- what an item leaves
abbrev pub QuietDrop : List Placed → Dropped → Type 0
QuietDrop layers (Item o) = Quiet layers o
QuietDrop layers (End o) = o.pings ≡ []
QuietDrop layers (Stops o) = o.pings ≡ []

message_quiet : (t : TermLayer) (below : List Placed) (o : Outcome) → Quiet below o → QuietDrop (Term t ∷ below) (drop_message t o)
message_quiet t below o q = at (is_terminal t o.said) (is_given o.said)
  where
    at : (a b : Bool) → QuietDrop (Term t ∷ below) (if a then End (left_with o.layers o) else if b then Item (record o { layers = Term t ∷ o.layers }) else Stops (record o { layers = Term t ∷ o.layers }))
    at true b = q.pings
    at false true = record { pings = q.pings; stays = q.stays }
    at false false = q.pings

frames_quiet : (ws : WsLayer) (below : List Placed) (o : Outcome) → Quiet (Ws ws ∷ below) o → QuietDrop (Ws ws ∷ below) (drop_frames below o)
frames_quiet ws below o q = at (has_met o.layers) (is_given o.said)
  where
    at : (a b : Bool) → QuietDrop (Ws ws ∷ below) (if a then End (left_with below o) else if b then Item o else Stops o)
    at true b = q.pings
    at false true = q
    at false false = q.pings

line_quiet : (http : HttpLayer) (below : List Placed) (u : List ℕ) (ended : Bool) (f : Front) → QuietDrop (Http http ∷ below) (drop_line http below u ended f)
line_quiet http below u ended (front.Whole x y z) = at (not (y - x == 0)) (is_first http.receiving)
  where
    at : (a b : Bool) → QuietDrop (Http http ∷ below) (if a then Item (outcome z (received AmongFields http ∷ below) Need) else if b then Stops (outcome 0 (Http http ∷ below) (Fault Eproto)) else End (outcome z below (Given (Number 0))))
    at true b = record { pings = refl; stays = same_ws (ws_of below) }
    at false true = refl
    at false false = refl
line_quiet http below u ended front.Need = refl
line_quiet http below u ended (front.Fault e) = refl

if_quiet : (layers : List Placed) (b : Bool) (x y : Dropped) → QuietDrop layers x → QuietDrop layers y → QuietDrop layers (if b then x else y)
if_quiet layers true x y p q = p
if_quiet layers false x y p q = q

pub drop_quiet : (layers : List Placed) (u : List ℕ) (ended : Bool) → IsStanding layers → Passless layers u → QuietDrop layers (drop_one layers u ended)
drop_quiet [] u ended k n = refl
drop_quiet (Prefix form ∷ below) u ended k n = refl
drop_quiet (Suffix end ∷ below) u ended k n = refl
drop_quiet (Http http ∷ below) u ended k n = if_quiet (Http http ∷ below) (is_behind http.receiving) (End (outcome 0 below (Given (Number 0)))) (drop_line http below u ended (front_of_line u)) refl (line_quiet http below u ended (front_of_line u))
drop_quiet (Term t ∷ below) u ended k n = at t.met refl
  where
    at : (b : Bool) → t.met ≡ b → QuietDrop (Term t ∷ below) (if b then End (outcome 0 below (Given (Number 0))) else drop_message t (read_message below u ended drop_limit))
    at true e = refl
    at false e = message_quiet t below (read_message below u ended 16384) (read_quiet below u ended k.1 (λ m. n (ap (λ b. b || is_met below) e ∙ m)))
drop_quiet (Ws ws ∷ below) u ended k n = if_quiet (Ws ws ∷ below) ws.met (End (outcome 0 below (Given (Number 0)))) (drop_frames below (read_ws below ws u ended drop_limit)) refl (frames_quiet ws below (read_ws below ws u ended 16384) (read_quiet (Ws ws ∷ below) u ended k n))

pub passless : (s : Held) → next_pass 16384 s ≡ None → Passless s.layers s.unread
passless s e = λ m. sym (ap (λ b. if b then None else pass_of_ws 16384 s.unread (ws_of s.layers)) m) ∙ e

abbrev looks : Outcome → Held × Stream → Looked
looks o now = record { stack = now.0; said = o.said; random = now.1 }

-- an answer or a stop, where nothing was passed
pub look_stop : (o : Outcome) (random : Stream) (s : Held) → o.pings ≡ [] → looked_over o random s ≡ record { stack = behind o s; said = o.said; random = random }
look_stop o random s e = ap (looks o) (ap (λ p. with_pongs_of (ws_of s.layers) p random (behind o s)) e ∙ none (ws_of s.layers))
  where
    none : (w : Option WsLayer) → with_pongs_of w [] random (behind o s) ≡ (behind o s, random)
    none None = refl
    none (Some ws) = at (answers_pings ws s)
      where
        at : (b : Bool) → ◌≡◌ {A = Held × Stream} (if b then (record (behind o s) { queue = s.queue }, random) else (behind o s, random)) (behind o s, random)
        at true = refl
        at false = refl

pub look_item : (o q : Outcome) (random : Stream) (s : Held) → Quiet s.layers o → looked_over (further o q) random s ≡ looked_over q random (behind o s)
look_item o q random s k =
    let u : drop (o.used + q.used) s.unread ≡ drop q.used (drop o.used s.unread) = sym (drop-drop q.used o.used s.unread) in
    let t : Held = record s { layers = q.layers; unread = drop q.used (drop o.used s.unread) } in
    ap (looks q) (ap (λ v. with_pongs_of (ws_of s.layers) (o.pings ++ q.pings) random (record s { layers = q.layers; unread = v })) u
    ∙ ap (λ p. with_pongs_of (ws_of s.layers) (p ++ q.pings) random t) k.pings
    ∙ pongs_alike (ws_of s.layers) (ws_of o.layers) q.pings random t k.stays)

some_layers : (layers : List Placed) (u : List ℕ) (ended : Bool) (o : Outcome) → drop_one layers u ended ≡ Item o → 1 ≤ length layers
some_layers [] u ended o e = cc
some_layers (x ∷ layers) u ended o e = omega arith

pub item_less : (p : PrefixLaws) (s : SuffixLaws) (l : LineLaws) (layers : List Placed) (u : List ℕ) (ended : Bool) (o : Outcome) → (1 ≤ length layers → IsDroppable layers) → drop_one layers u ended ≡ Item o → (1 ≤ o.used) × (1 ≤ length u)
item_less p s l layers u ended o k e = at (drop_one layers u ended) e (one_fine p s l layers u ended (k (some_layers layers u ended o e)))
  where
    at : (d : Dropped) → d ≡ Item o → StepFine u d → (1 ≤ o.used) × (1 ≤ length u)
    at (Item q) e f = let g : q ≡ o = cc in (subst (λ (x : Outcome). 1 ≤ x.used) g f.0, f.1)
    at (End q) e f = cc
    at (Stops q) e f = cc

-- what dropping an item leaves
pub drop_sinks : (p : PrefixLaws) (s : SuffixLaws) (l : LineLaws) (r : DropStep) (before now : Stocked) (random : Stream) → IsStanding before.held.layers → (1 ≤ length before.held.layers → IsDroppable before.held.layers) → next_pass 16384 before.held ≡ None → r ≡ step_of (next_dropped before.held) → now ≡ behind_item (next_dropped before.held) before → Sinks r before now random random
drop_sinks p s l step.Item before now random k f n e b =
    let d : Dropped = next_dropped before.held in
    let o : Outcome = outcome_of d in
    let i : d ≡ Item o = is_item d e in
    let q : Quiet before.held.layers o = subst (QuietDrop before.held.layers) i (drop_quiet before.held.layers before.held.unread before.held.receiving.done k (passless before.held n)) in
    let m = item_less p s l before.held.layers before.held.unread before.held.receiving.done o f i in
    let held : now.held ≡ behind o before.held = ap {A = Stocked} (λ x. x.held) b in
    let size : length now.held.unread ≡ length before.held.unread - o.used = ap {A = Held} (λ x. length x.unread) held ∙ length-drop o.used before.held.unread in
    record {
      same = λ c g.
          let t : (j : ℕ) × (c ≡ suc j) = suc_of c (length before.held.unread) g in (
            t.0,
            omega (arith, g, t.1, size, m.0, m.1),
            ap (λ x. look_within x random before.held) t.1
                ∙ ap (λ x. looked_over (after_drop (dropped_within t.0 before.held.receiving.done) before.held.unread x) random before.held) i
                ∙ look_item o (dropped_within t.0 before.held.receiving.done o.layers (drop o.used before.held.unread)) random before.held q
                ∙ ap {A = Held} (λ x. look_within t.0 random x) (sym held),
          );
      less = omega (arith, size, m.0, m.1);
      rest = b ∙ ap {A = Held} (λ x. record before { held = x }) (sym held);
    }
drop_sinks p s l step.End before now random k f n e b =
    let d : Dropped = next_dropped before.held in
    let o : Outcome = outcome_of d in
    let i : d ≡ End o = is_end d e in
    let q : o.pings ≡ [] = subst (QuietDrop before.held.layers) i (drop_quiet before.held.layers before.held.unread before.held.receiving.done k (passless before.held n)) in
    let a : o.said ≡ Given (Number 0) = subst (λ (x : Dropped). IsAnswered x) i (answered before.held.layers before.held.unread before.held.receiving.done) in
    let held : now.held ≡ behind o before.held = ap {A = Stocked} (λ x. x.held) b in
    record {
      same = λ c g.
          let t : (j : ℕ) × (c ≡ suc j) = suc_of c (length before.held.unread) g in
          ap (λ x. look_within x random before.held) t.1
          ∙ ap (λ x. looked_over (after_drop (dropped_within t.0 before.held.receiving.done) before.held.unread x) random before.held) i
          ∙ look_stop o random before.held q
          ∙ ap (λ x. let y : Looked = record { stack = behind o before.held; said = x; random = random } in y) a
          ∙ ap {A = Held} (λ x. let y : Looked = record { stack = x; said = Given (Number 0); random = random } in y) (sym held);
      rest = b ∙ ap {A = Held} (λ x. record before { held = x }) (sym held);
    }
drop_sinks p s l (step.Stops said) before now random k f n e b =
    let d : Dropped = next_dropped before.held in
    let o : Outcome = outcome_of d in
    let w = is_stop d said e in
    let q : o.pings ≡ [] = subst (QuietDrop before.held.layers) w.0 (drop_quiet before.held.layers before.held.unread before.held.receiving.done k (passless before.held n)) in
    let held : now.held ≡ behind o before.held = ap {A = Stocked} (λ x. x.held) b in
    record {
      same = λ c g.
          let t : (j : ℕ) × (c ≡ suc j) = suc_of c (length before.held.unread) g in
          ap (λ x. look_within x random before.held) t.1
          ∙ ap (λ x. looked_over (after_drop (dropped_within t.0 before.held.receiving.done) before.held.unread x) random before.held) w.0
          ∙ look_stop o random before.held q
          ∙ ap (λ x. let y : Looked = record { stack = behind o before.held; said = x; random = random } in y) (sym w.1)
          ∙ ap {A = Held} (λ x. let y : Looked = record { stack = x; said = said; random = random } in y) (sym held);
      rest = b ∙ ap {A = Held} (λ x. record before { held = x }) (sym held);
    }

-- ---- all of them

-- A detach that has come so far leads to the same look.
pub record Reaches (most at : ℕ) (from to : Stocked) (random now : Stream) : Type 0 where
  pub left : ℕ
  pub enough : length to.held.unread < left
  pub same : look_within (suc (length from.held.unread)) random from.held ≡ look_within left now to.held
  pub rest : to ≡ record from { held = to.held }
  pub count : at + length to.held.unread ≤ most

pub reaches_first : (most : ℕ) (s : Stocked) (random : Stream) → length s.held.unread ≤ most → Reaches most 0 s s random random
reaches_first most s random l = record { left = suc (length s.held.unread); enough = omega arith; same = refl; rest = refl; count = omega (arith, l) }

pub reaches_on : (most at : ℕ) (from mid to : Stocked) (random now later : Stream) → Reaches most at from mid random now → GoesOn mid to now later → Reaches most (at + 1) from to random later
reaches_on most at from mid to random now later i g =
    let x = g.same i.left i.enough in
    record {
      left = x.0;
      enough = x.1;
      same = i.same ∙ x.2;
      rest = g.rest ∙ ap {A = Stocked} (λ s. record s { held = to.held }) i.rest;
      count = omega (arith, i.count, g.less);
    }

pub reaches_stop : (most at : ℕ) (from mid to : Stocked) (random now later : Stream) (said : ReadOut) → Reaches most at from mid random now → StopsWith said mid to now later → (look_within (suc (length from.held.unread)) random from.held ≡ record { stack = to.held; said = said; random = later }) × (to ≡ record from { held = to.held })
reaches_stop most at from mid to random now later said i g = (
  i.same ∙ g.same i.left i.enough,
  g.rest ∙ ap {A = Stocked} (λ s. record s { held = to.held }) i.rest,
)

pub reaches_out : {A : Type 0} (most at : ℕ) (from to : Stocked) (random now : Stream) → most + 1 ≤ at → Reaches most at from to random now → A
reaches_out most at from to random now l i = absurd (omega (arith, l, i.count))
