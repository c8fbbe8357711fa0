-- A detach is answered the same under any cutting of what comes, and wherever the peer's end comes.
use Rattle.std.proofs.Common.{◌≡◌, ◌<◌, ◌≤◌, ◌+◌, ◌-◌, [], ◌∷◌, ◌++◌, List, ℕ, zero, suc, length, take, drop, map, length-append, arith, sym, ap, ◌∙◌, refl, subst, Bool, true, false, not, ◌&&◌, ◌||◌, inl, inr, Option, Some, None, if◌then◌else◌}
use Rattle.std.specs.Prelude.{◌==◌, is_some}
use Rattle.std.specs.Option.{unwrap_or}
use Rattle.std.specs.Str.{is_utf8}
use Rattle.std.specs.List.{list_any}
use Rattle.std.proofs.lemmas.List.{drop-append-le, take-append-le, length-drop}
use Rattle.rand_core.specs.Stream.{Stream}
use Rattle.dill_base.specs.declared.errno.Errno.TheVariants.{Epipe, Eproto}
use Rattle.dill_base.specs.declared.errno.Front.{Front}
use Rattle.dill_base.specs.declared.errno.Front.TheVariants as front
use Rattle.dill_calls.specs.declared.answer.Answer.TheVariants.{Bytes, Number}
use Rattle.dill_frames.specs.Judging.{IsJudged, LiesIn}
use Rattle.dill_frames.specs.Laws.{PrefixLaws, SuffixLaws}
use Rattle.dill_frames.specs.Prefix.{prefix_front}
use Rattle.dill_frames.specs.Suffix.{suffix_front}
use Rattle.dill_http.specs.Laws.{LineLaws}
use Rattle.dill_http.specs.Lines.{front_of_line}
use Rattle.dill_ws.specs.declared.side.Side.{Side}
use Rattle.dill_ws.specs.Closing.{close_of}
use Rattle.dill_ws.specs.Frames.{Part}
use Rattle.dill_stack.specs.declared.want.ReadOut.{ReadOut}
use Rattle.dill_stack.specs.declared.want.ReadOut.TheVariants.{Given, Need, Fault}
use Rattle.dill_stack.specs.Layers.{TermLayer, WsLayer, HttpLayer, Placed, Prefix, Suffix, Term, Http, Ws, HasMessages, IsStanding, AmongFields, is_first, is_behind}
use Rattle.dill_stack.specs.Formed.{IsFormed}
use Rattle.dill_stack.specs.Held.{Held, Item as Queued, Pong}
use Rattle.dill_stack.specs.WsReading.{Passed, passed, nothing_passed, pass_by_front, ws_front, WsFront, Whole, Short, Refused, Shown, shown, shown_by, at_end}
use Rattle.dill_stack.specs.Read.{Outcome, outcome, no_more, by_front, behind_passed, is_terminal, over_term, read_message, read_ws, received}
use Rattle.dill_stack.specs.Sending.{is_sent, is_pong}
use Rattle.dill_stack.specs.Receiving.{Looked, ws_of, answers_pings, is_waiting_pong, replaced, with_pong, pong_of, with_pongs_of, ponged, looked_over}
use Rattle.dill_stack.specs.Refusals.{is_met}
use Rattle.dill_stack.specs.Dropping.{Dropped, Item, End, Stops, drop_limit, is_given, left_with, drop_message, has_met, drop_frames, drop_line, drop_one, further, after_drop, dropped_within, dropped}
use Rattle.dill_stack.specs.Parting.{left_over, detach_finish}
use Rattle.dill_stack.specs.Staying.{FrontStays}
use Rattle.dill_stack.specs.Stepping.{next_pass, with_ws, stepped}
use Rattle.dill_stack.specs.Taking.{behind}
use Rattle.dill_stack.specs.Again.{still}
use Rattle.dill_stack.specs.Sinking.{look_within}
use Rattle.dill_stack.specs.Cutting.{FinishesAlike}
use Rattle.dill_stack.proofs.Again.{passed_nothing, looked_still}
use Rattle.dill_stack.proofs.DropAgain.{Moves, Steps, one_steps, Fixed, fixed_stays, need_kept, left_need}
use Rattle.dill_stack.proofs.Limits.{FrameAt, frame_at}
use Rattle.dill_stack.proofs.Sifts.{more_given}
use Rattle.dill_stack.proofs.Sinkings.{Passless, passless, Quiet, QuietDrop, drop_quiet, look_step, look_item}
use Rattle.dill_stack.proofs.StepReads.{IsPass, is_pass, Left, step_left}
use Rattle.dill_stack.proofs.StepReads as steps
use Rattle.dill_stack.proofs.Events.{more, Awaited, still_awaited, looks_alike}
use Rattle.dill_stack.proofs.Cuttings.{message_still, pass_stays, step_more}

no_answer : {A : Type 0} → false ≡ true → A
no_answer e = cc

-- ---- however many items may be dropped, all are

pub drop_more : (p : PrefixLaws) (s : SuffixLaws) (n m : ℕ) (ended : Bool) (layers : List Placed) (u : List ℕ) → length u < n → length u < m → dropped_within n ended layers u ≡ dropped_within m ended layers u
drop_more p s zero m ended layers u k l = absurd (omega (arith, k))
drop_more p s (suc n) zero ended layers u k l = absurd (omega (arith, l))
drop_more p s (suc n) (suc m) ended layers u k l = at (drop_one layers u ended) refl (one_steps p s layers u ended) (drop_more p s n m ended)
  where
    at : (d : Dropped) → drop_one layers u ended ≡ d → Steps layers u ended d → ((x : List Placed) (v : List ℕ) → length v < n → length v < m → dropped_within n ended x v ≡ dropped_within m ended x v) → after_drop (dropped_within n ended) u d ≡ after_drop (dropped_within m ended) u d
    at (Item o) r t again = by t
      where
        by : Moves layers u o → further o (dropped_within n ended o.layers (drop o.used u)) ≡ further o (dropped_within m ended o.layers (drop o.used u))
        by (inl less) = ap (further o) (again o.layers (drop o.used u) (omega (arith, k, less.0, less.1, length-drop o.used u)) (omega (arith, l, less.0, less.1, length-drop o.used u)))
        by (inr same) =
            let here : Fixed layers u ended = inr (o.said, r ∙ ap Item same) in
            ap (λ (x : Outcome). further o (dropped_within n ended x.layers (drop x.used u))) same
            ∙ ap (further o) (fixed_stays n layers u ended here ∙ sym (fixed_stays m layers u ended here))
            ∙ ap (λ (x : Outcome). further o (dropped_within m ended x.layers (drop x.used u))) (sym same)
    at (End o) r t again = refl
    at (Stops o) r t again = refl

-- all that a look of a detach drops
abbrev look_all : Stream → Held → Looked
look_all random s = look_within (suc (length s.unread)) random s

look_fuel : (p : PrefixLaws) (s : SuffixLaws) (n : ℕ) (random : Stream) (t : Held) → length t.unread < n → look_within n random t ≡ look_all random t
look_fuel p s n random t l = ap (λ o. looked_over o random t) (drop_more p s n (suc (length t.unread)) t.receiving.done t.layers t.unread l (omega arith))

-- ---- layers that keep their shape

-- layers that stand, whose terminators aren't empty
abbrev pub IsWell : List Placed → Type 0
IsWell [] = Unit {0}
IsWell (Suffix end ∷ below) = (0 < length end) × (below ≡ [])
IsWell (Term term ∷ below) = HasMessages below × IsWell below
IsWell (layer ∷ below) = below ≡ []

pub well_from : (layers : List Placed) → IsStanding layers → IsFormed layers → IsWell layers
well_from [] k f = tt
well_from (Prefix form ∷ below) k f = k
well_from (Suffix end ∷ below) k f = (f.0, k)
well_from (Term t ∷ below) k f = (k.0, well_from below k.1 f.2)
well_from (Http http ∷ below) k f = k
well_from (Ws ws ∷ below) k f = k

stands_from : (layers : List Placed) → IsWell layers → IsStanding layers
stands_from [] w = tt
stands_from (Prefix form ∷ below) w = w
stands_from (Suffix end ∷ below) w = w.1
stands_from (Term t ∷ below) w = (w.0, stands_from below w.1)
stands_from (Http http ∷ below) w = w
stands_from (Ws ws ∷ below) w = w

-- layers in the place of these
abbrev Shaped : List Placed → List Placed → Type 0
Shaped a b = (HasMessages a → HasMessages b) × (IsWell a → IsWell b)

with_shaped : (x : WsLayer) (layers : List Placed) → Shaped layers (with_ws x layers)
with_shaped x [] = (λ h. h, λ w. w)
with_shaped x (Prefix form ∷ []) = (λ h. h, λ w. w)
with_shaped x (Prefix form ∷ y ∷ below) = (λ h. h, λ w. cc)
with_shaped x (Suffix end ∷ []) = (λ h. h, λ w. w)
with_shaped x (Suffix end ∷ y ∷ below) = (λ h. h, λ w. let e : y ∷ below ≡ [] = w.1 in cc)
with_shaped x (Term t ∷ below) = let i = with_shaped x below in (λ h. tt, λ w. (i.0 w.0, i.1 w.1))
with_shaped x (Http http ∷ []) = (λ h. h, λ w. w)
with_shaped x (Http http ∷ y ∷ below) = (λ h. h, λ w. cc)
with_shaped x (Ws ws ∷ below) = (λ h. h, λ w. w)

front_layers : (layers : List Placed) (u : List ℕ) (d : Bool) (f : Front) → (by_front layers u d f).layers ≡ layers
front_layers layers u d (front.Whole x y z) = refl
front_layers layers u d front.Need = refl
front_layers layers u d (front.Fault e) = refl

same_shaped : (a b : List Placed) → b ≡ a → Shaped a b
same_shaped a b e = (λ h. subst HasMessages (sym e) h, λ w. subst IsWell (sym e) w)

message_shaped : (layers : List Placed) (u : List ℕ) (d : Bool) → Shaped layers (read_message layers u d 16384).layers
message_shaped [] u d = (λ h. h, λ w. w)
message_shaped (Prefix form ∷ below) u d = same_shaped (Prefix form ∷ below) _ (front_layers (Prefix form ∷ below) u d (prefix_front form u 16384))
message_shaped (Suffix end ∷ below) u d = same_shaped (Suffix end ∷ below) _ (front_layers (Suffix end ∷ below) u d (suffix_front end u 16384))
message_shaped (Http http ∷ below) u d = (λ h. h, λ w. w)
message_shaped (Ws ws ∷ below) u d = at ws.met
  where
    at : (b : Bool) → Shaped (Ws ws ∷ below) (if b then outcome 0 (Ws ws ∷ below) (Fault Epipe) else behind_passed below (passed 16384 ws u) (shown 16384 d (passed 16384 ws u).ws (drop (passed 16384 ws u).used u))).layers
    at true = (λ h. h, λ w. w)
    at false = (λ h. tt, λ w. w)
message_shaped (Term t ∷ below) u d = at t.met (message_shaped below u d)
  where
    over : (o : Outcome) (b : Bool) → Shaped below o.layers → Shaped (Term t ∷ below) (if b then record o { layers = Term (record t { met = true }) ∷ o.layers; said = Fault Epipe } else record o { layers = Term t ∷ o.layers }).layers
    over o true i = (λ h. tt, λ w. (i.0 w.0, i.1 w.1))
    over o false i = (λ h. tt, λ w. (i.0 w.0, i.1 w.1))

    at : (b : Bool) → Shaped below (read_message below u d 16384).layers → Shaped (Term t ∷ below) (if b then outcome 0 (Term t ∷ below) (Fault Epipe) else over_term t (read_message below u d 16384)).layers
    at true i = (λ h. h, λ w. w)
    at false i = over (read_message below u d 16384) (is_terminal t (read_message below u d 16384).said) i

-- ---- a message stays when more comes

-- the same message, all of whose bytes are there
record Kept (layers : List Placed) (u v : List ℕ) (d e : Bool) : Type 0 where
  same : read_message layers (u ++ v) e 16384 ≡ read_message layers u d 16384
  there : (read_message layers u d 16384).used ≤ length u

part_stays : (x y z : ℕ) (u v : List ℕ) → LiesIn u 16384 x y z → take (y - x) (drop x (u ++ v)) ≡ take (y - x) (drop x u)
part_stays x y z u v l =
    ap (take (y - x)) (drop-append-le x u v (omega (arith, l.forward, l.within, l.there)))
    ∙ take-append-le (y - x) (drop x u) v (omega (arith, length-drop x u, l.forward, l.within, l.there))

-- by what stood at the front, and stands there still
front_kept : (layers : List Placed) (u v : List ℕ) (d e : Bool) (f g : Front) → (IsJudged f → g ≡ f) → ((x y z : ℕ) → f ≡ front.Whole x y z → LiesIn u 16384 x y z) → is_given (by_front layers u d f).said ≡ true
    → (by_front layers (u ++ v) e g ≡ by_front layers u d f) × ((by_front layers u d f).used ≤ length u)
front_kept layers u v d e (front.Whole x y z) g s l h = let lies = l x y z refl in (ap (by_front layers (u ++ v) e) (s tt) ∙ ap (λ m. outcome z layers (Given (Bytes m))) (part_stays x y z u v lies), lies.there)
front_kept layers u v d e front.Need g s l h = no_answer (sym (more_given d true u) ∙ h)
front_kept layers u v d e (front.Fault x) g s l h = cc

shown_kept : (f : FrontStays) (d e : Bool) (ws : WsLayer) (u v : List ℕ) → is_given (shown 16384 d ws u).said ≡ true → (shown 16384 e ws (u ++ v) ≡ shown 16384 d ws u) × (ws_front 16384 ws (u ++ v) ≡ ws_front 16384 ws u) × ((shown 16384 d ws u).used ≤ length u)
unfolding shown
shown_kept f d e ws u v g = by (ws_front 16384 ws u) refl g
  where
    used_of : (part : Part) (used : ℕ) (a b c : Bool) → used ≤ length u → (if a then (if b then (let s : Shown = record { used = used; ws = record ws { met = true }; said = Fault Epipe } in s) else record { used = 0; ws = ws; said = Fault Eproto }) else (if c then (let s : Shown = record { used = 0; ws = ws; said = Fault Eproto } in s) else record { used = used; ws = record ws { joining = None; joined = [] }; said = Given (Bytes (ws.joined ++ part.payload)) })).used ≤ length u
    used_of part used true true c l = l
    used_of part used true false c l = omega arith
    used_of part used false b true l = omega arith
    used_of part used false b false l = l

    by : (w : WsFront) → ws_front 16384 ws u ≡ w → is_given (shown_by d ws u w).said ≡ true → (shown_by e ws (u ++ v) (ws_front 16384 ws (u ++ v)) ≡ shown_by d ws u (ws_front 16384 ws u)) × (ws_front 16384 ws (u ++ v) ≡ ws_front 16384 ws u) × ((shown_by d ws u (ws_front 16384 ws u)).used ≤ length u)
    by (Whole part used) r h =
        let same : ws_front 16384 ws (u ++ v) ≡ Whole part used = f 16384 ws u v (Whole part used) r tt in
        let a : FrameAt ws u part used = frame_at 16384 ws u part used r in
        let there : used ≤ length u = omega (arith, a.there, a.used_is) in (
          ap (shown_by e ws (u ++ v)) same ∙ ap (shown_by d ws u) (sym r),
          same ∙ sym r,
          subst (λ x. (shown_by d ws u x).used ≤ length u) (sym r) (used_of part used (part.opcode == 8) (is_some (close_of part.payload)) (unwrap_or ws.joining part.opcode == 1 && not (is_utf8 (ws.joined ++ part.payload))) there),
        )
    by Short r h = no_answer (sym (open_said d (at_end ws u)) ∙ h)
      where
        ends : (b : Bool) → is_given (if b then Fault Epipe else Fault Eproto) ≡ false
        ends true = refl
        ends false = refl

        open_said : (b : Bool) (said : ReadOut) → is_given (if b then at_end ws u else Need) ≡ false
        open_said true said = ends _
        open_said false said = refl
    by (Refused x) r h = cc

ws_kept : (f : FrontStays) (ws : WsLayer) (u v : List ℕ) (d e : Bool) → Passless (Ws ws ∷ []) u → is_given (read_ws [] ws u d 16384).said ≡ true → (read_ws [] ws (u ++ v) e 16384 ≡ read_ws [] ws u d 16384) × ((read_ws [] ws u d 16384).used ≤ length u)
ws_kept f ws u v d e n g = at ws.met refl g
  where
    read : Bool → List ℕ → Bool → Outcome
    read b x c = if b then outcome 0 (Ws ws ∷ []) (Fault Epipe) else behind_passed [] (passed 16384 ws x) (shown 16384 c (passed 16384 ws x).ws (drop (passed 16384 ws x).used x))

    plain : (x : List ℕ) (c : Bool) → passed 16384 ws x ≡ nothing_passed ws → read false x c ≡ behind_passed [] (nothing_passed ws) (shown 16384 c ws x)
    plain x c h = ap (λ (y : Passed). behind_passed [] y (shown 16384 c y.ws (drop y.used x))) h

    unmet : ws.met ≡ false → is_given (read false u d).said ≡ true → (read false (u ++ v) e ≡ read false u d) × ((read false u d).used ≤ length u)
    unmet m h =
        let none : pass_by_front ws (ws_front 16384 ws u) ≡ None = n (ap (λ b. b || false) m) in
        let first = plain u d (passed_nothing 16384 ws u none) in
        let k = shown_kept f d e ws u v (ap (λ (o : Outcome). is_given o.said) (sym first) ∙ h) in
        let second = plain (u ++ v) e (passed_nothing 16384 ws (u ++ v) (ap (pass_by_front ws) k.1 ∙ none)) in (
          second ∙ ap (behind_passed [] (nothing_passed ws)) k.0 ∙ sym first,
          subst (λ (o : Outcome). o.used ≤ length u) (sym first) (omega (arith, k.2)),
        )

    at : (b : Bool) → ws.met ≡ b → is_given (read b u d).said ≡ true → (read b (u ++ v) e ≡ read b u d) × ((read b u d).used ≤ length u)
    at true m h = cc
    at false m h = unmet m h

over_kept : (t : TermLayer) (o : Outcome) (b : Bool) → is_given (if b then record o { layers = Term (record t { met = true }) ∷ o.layers; said = Fault Epipe } else record o { layers = Term t ∷ o.layers }).said ≡ true → is_given o.said ≡ true
over_kept t o true h = cc
over_kept t o false h = h

over_used : (t : TermLayer) (o : Outcome) (n : ℕ) (b : Bool) → o.used ≤ n → (if b then record o { layers = Term (record t { met = true }) ∷ o.layers; said = Fault Epipe } else record o { layers = Term t ∷ o.layers }).used ≤ n
over_used t o n true l = l
over_used t o n false l = l

below_passless : (t : TermLayer) (below : List Placed) (u : List ℕ) → t.met ≡ false → Passless (Term t ∷ below) u → Passless below u
below_passless t below u e n = λ m. n (ap (λ b. b || is_met below) e ∙ m)

message_kept : (p : PrefixLaws) (s : SuffixLaws) (f : FrontStays) (layers : List Placed) (u v : List ℕ) (d e : Bool) → IsWell layers → Passless layers u → is_given (read_message layers u d 16384).said ≡ true → Kept layers u v d e
message_kept p s f [] u v d e w n g = cc
message_kept p s f (Prefix form ∷ below) u v d e w n g =
    let k = front_kept (Prefix form ∷ below) u v d e (prefix_front form u 16384) (prefix_front form (u ++ v) 16384) (λ j. p.stays form u v 16384 (prefix_front form u 16384) refl j) (λ x y z h. p.lies form u 16384 x y z h) g in
    record { same = k.0; there = k.1 }
message_kept p s f (Suffix end ∷ below) u v d e w n g =
    let k = front_kept (Suffix end ∷ below) u v d e (suffix_front end u 16384) (suffix_front end (u ++ v) 16384) (λ j. s.stays end u v 16384 (suffix_front end u 16384) w.0 refl j) (λ x y z h. s.lies end u 16384 x y z h) g in
    record { same = k.0; there = k.1 }
message_kept p s f (Http http ∷ below) u v d e w n g = cc
message_kept p s f (Ws ws ∷ []) u v d e w n g = let k = ws_kept f ws u v d e n g in record { same = k.0; there = k.1 }
message_kept p s f (Ws ws ∷ y ∷ below) u v d e w n g = cc
message_kept p s f (Term t ∷ below) u v d e w n g = at t.met refl g (message_kept p s f below u v d e w.1)
  where
    read : Bool → List ℕ → Bool → Outcome
    read b x c = if b then outcome 0 (Term t ∷ below) (Fault Epipe) else over_term t (read_message below x c 16384)

    made : (read t.met (u ++ v) e ≡ read t.met u d) → ((read t.met u d).used ≤ length u) → Kept (Term t ∷ below) u v d e
    made a b = record { same = a; there = b }

    at : (b : Bool) → t.met ≡ b → is_given (read t.met u d).said ≡ true → (Passless below u → is_given (read_message below u d 16384).said ≡ true → Kept below u v d e) → Kept (Term t ∷ below) u v d e
    at true m h again = let bad : false ≡ true = ap (λ b. is_given (read b u d).said) (sym m) ∙ h in no_answer bad
    at false m h again =
        let given = over_kept t (read_message below u d 16384) (is_terminal t (read_message below u d 16384).said) (ap (λ b. is_given (read b u d).said) (sym m) ∙ h) in
        let k : Kept below u v d e = again (below_passless t below u m n) given in
        made (ap (λ b. read b (u ++ v) e) m ∙ ap (over_term t) k.same ∙ ap (λ b. read b u d) (sym m)) (subst (λ b. (read b u d).used ≤ length u) (sym m) (over_used t (read_message below u d 16384) (length u) (is_terminal t (read_message below u d 16384).said) k.there))

-- ---- an item stays when more comes

-- the same item, all of whose bytes are there, and what it leaves
record ItemKept (layers : List Placed) (u v : List ℕ) (e : Bool) (o : Outcome) : Type 0 where
  same : drop_one layers (u ++ v) e ≡ Item o
  there : o.used ≤ length u
  well : IsWell o.layers

pub message_item : (t : TermLayer) (m o : Outcome) → drop_message t m ≡ Item o → (is_given m.said ≡ true) × (record m { layers = Term t ∷ m.layers } ≡ o)
message_item t m o h = at (is_terminal t m.said) (is_given m.said) refl h
  where
    at : (a b : Bool) → is_given m.said ≡ b → (if a then End (left_with m.layers m) else if b then Item (record m { layers = Term t ∷ m.layers }) else Stops (record m { layers = Term t ∷ m.layers })) ≡ Item o → (is_given m.said ≡ true) × (record m { layers = Term t ∷ m.layers } ≡ o)
    at true b g h = cc
    at false true g h = (g, cc)
    at false false g h = cc

frames_item : (below : List Placed) (m o : Outcome) → drop_frames below m ≡ Item o → (is_given m.said ≡ true) × (m ≡ o)
frames_item below m o h = at (has_met m.layers) (is_given m.said) refl h
  where
    at : (a b : Bool) → is_given m.said ≡ b → (if a then End (left_with below m) else if b then Item m else Stops m) ≡ Item o → (is_given m.said ≡ true) × (m ≡ o)
    at true b g h = cc
    at false true g h = (g, cc)
    at false false g h = cc

line_kept : (l : LineLaws) (http : HttpLayer) (below : List Placed) (u v : List ℕ) (d e : Bool) (o : Outcome) (w : Front) → below ≡ [] → front_of_line u ≡ w → drop_line http below u d w ≡ Item o → (drop_line http below (u ++ v) e (front_of_line (u ++ v)) ≡ Item o) × (o.used ≤ length u) × IsWell o.layers
line_kept l http below u v d e o (front.Whole x y z) b r h =
    let same : front_of_line (u ++ v) ≡ front.Whole x y z = l.stays u v (front.Whole x y z) r tt in
    let is : outcome z (received AmongFields http ∷ below) Need ≡ o = at (y - x == 0) (is_first http.receiving) h in (
      ap (drop_line http below (u ++ v) e) same ∙ h,
      subst (λ (q : Outcome). q.used ≤ length u) is (l.lies u x y z r).there,
      subst (λ (q : Outcome). IsWell q.layers) is b,
    )
  where
    at : (a c : Bool) → (if not a then Item (outcome z (received AmongFields http ∷ below) Need) else if c then Stops (outcome 0 (Http http ∷ below) (Fault Eproto)) else End (outcome z below (Given (Number 0)))) ≡ Item o → outcome z (received AmongFields http ∷ below) Need ≡ o
    at false c h = cc
    at true true h = cc
    at true false h = cc
line_kept l http below u v d e o front.Need b r h = cc
line_kept l http below u v d e o (front.Fault x) b r h = cc

item_kept : (p : PrefixLaws) (s : SuffixLaws) (l : LineLaws) (f : FrontStays) (layers : List Placed) (u v : List ℕ) (d e : Bool) (o : Outcome) → IsWell layers → Passless layers u → drop_one layers u d ≡ Item o → ItemKept layers u v e o
item_kept p s l f [] u v d e o w n h = cc
item_kept p s l f (Prefix form ∷ below) u v d e o w n h = cc
item_kept p s l f (Suffix end ∷ below) u v d e o w n h = cc
item_kept p s l f (Term t ∷ below) u v d e o w n h = at t.met refl h
  where
    one : Bool → List ℕ → Bool → Dropped
    one b x c = if b then End (outcome 0 below (Given (Number 0))) else drop_message t (read_message below x c drop_limit)

    m : Outcome
    m = read_message below u d 16384

    at : (b : Bool) → t.met ≡ b → one t.met u d ≡ Item o → ItemKept (Term t ∷ below) u v e o
    at true q h = let bad : End (outcome 0 below (Given (Number 0))) ≡ Item o = ap (λ b. one b u d) (sym q) ∙ h in cc
    at false q h =
        let it : drop_message t m ≡ Item o = ap (λ b. one b u d) (sym q) ∙ h in
        let g = message_item t m o it in
        let k : Kept below u v d e = message_kept p s f below u v d e w.1 (below_passless t below u q n) g.0 in
        let i = message_shaped below u d in
        record {
          same = ap (λ b. one b (u ++ v) e) q ∙ ap (drop_message t) k.same ∙ it;
          there = subst (λ (x : Outcome). x.used ≤ length u) g.1 k.there;
          well = subst (λ (x : Outcome). IsWell x.layers) g.1 (i.0 w.0, i.1 w.1);
        }
item_kept p s l f (Http http ∷ below) u v d e o w n h = at (is_behind http.receiving) refl h
  where
    one : Bool → List ℕ → Bool → Dropped
    one b x c = if b then End (outcome 0 below (Given (Number 0))) else drop_line http below x c (front_of_line x)

    at : (b : Bool) → is_behind http.receiving ≡ b → one (is_behind http.receiving) u d ≡ Item o → ItemKept (Http http ∷ below) u v e o
    at true q h = let bad : End (outcome 0 below (Given (Number 0))) ≡ Item o = ap (λ b. one b u d) (sym q) ∙ h in cc
    at false q h =
        let k = line_kept l http below u v d e o (front_of_line u) w refl (ap (λ b. one b u d) (sym q) ∙ h) in
        record { same = ap (λ b. one b (u ++ v) e) q ∙ k.0; there = k.1; well = k.2 }
item_kept p s l f (Ws ws ∷ y ∷ below) u v d e o w n h = cc
item_kept p s l f (Ws ws ∷ []) u v d e o w n h = at ws.met refl h
  where
    one : Bool → List ℕ → Bool → Dropped
    one b x c = if b then End (outcome 0 [] (Given (Number 0))) else drop_frames [] (read_ws [] ws x c drop_limit)

    m : Outcome
    m = read_ws [] ws u d 16384

    at : (b : Bool) → ws.met ≡ b → one ws.met u d ≡ Item o → ItemKept (Ws ws ∷ []) u v e o
    at true q h = let bad : End (outcome 0 [] (Given (Number 0))) ≡ Item o = ap (λ b. one b u d) (sym q) ∙ h in cc
    at false q h =
        let it : drop_frames [] m ≡ Item o = ap (λ b. one b u d) (sym q) ∙ h in
        let g = frames_item [] m o it in
        let k = ws_kept f ws u v d e n g.0 in
        let i = message_shaped (Ws ws ∷ []) u d in
        record {
          same = ap (λ b. one b (u ++ v) e) q ∙ ap (drop_frames []) k.0 ∙ it;
          there = subst (λ (x : Outcome). x.used ≤ length u) g.1 k.1;
          well = subst (λ (x : Outcome). IsWell x.layers) g.1 (i.1 w);
        }

-- ---- where nothing is passed and more is awaited, nothing changes

pub message_stops : (t : TermLayer) (m o : Outcome) → drop_message t m ≡ Stops o → o ≡ record m { layers = Term t ∷ m.layers }
message_stops t m o h = at (is_terminal t m.said) (is_given m.said) h
  where
    at : (a b : Bool) → (if a then End (left_with m.layers m) else if b then Item (record m { layers = Term t ∷ m.layers }) else Stops (record m { layers = Term t ∷ m.layers })) ≡ Stops o → o ≡ record m { layers = Term t ∷ m.layers }
    at true b h = cc
    at false true h = cc
    at false false h = cc

frames_stops : (below : List Placed) (m o : Outcome) → drop_frames below m ≡ Stops o → o ≡ m
frames_stops below m o h = at (has_met m.layers) (is_given m.said) h
  where
    at : (a b : Bool) → (if a then End (left_with below m) else if b then Item m else Stops m) ≡ Stops o → o ≡ m
    at true b h = cc
    at false true h = cc
    at false false h = cc

no_fault : {A : Type 0} → Fault Eproto ≡ Need → A
no_fault h = absurd (never h)
  where
    never : Fault Eproto ≡ Need → ⊥
    never h = cc

line_stops : (http : HttpLayer) (below : List Placed) (u : List ℕ) (d : Bool) (o : Outcome) (w : Front) → drop_line http below u d w ≡ Stops o → o.said ≡ Need → o ≡ outcome 0 (Http http ∷ below) Need
line_stops http below u d o (front.Whole x y z) h n = at (y - x == 0) (is_first http.receiving) h
  where
    at : (a c : Bool) → (if not a then Item (outcome z (received AmongFields http ∷ below) Need) else if c then Stops (outcome 0 (Http http ∷ below) (Fault Eproto)) else End (outcome z below (Given (Number 0)))) ≡ Stops o → o ≡ outcome 0 (Http http ∷ below) Need
    at false c h = cc
    at true true h = let q : outcome 0 (Http http ∷ below) (Fault Eproto) ≡ o = cc in no_fault (ap (λ (x : Outcome). x.said) q ∙ n)
    at true false h = cc
line_stops http below u d o front.Need h n =
    let q : outcome 0 (Http http ∷ below) (no_more d (is_first http.receiving) u) ≡ o = cc in
    sym q ∙ ap (outcome 0 (Http http ∷ below)) (ap (λ (x : Outcome). x.said) q ∙ n)
line_stops http below u d o (front.Fault x) h n =
    let q : outcome 0 (Http http ∷ below) (Fault x) ≡ o = cc in
    sym q ∙ ap (outcome 0 (Http http ∷ below)) (ap (λ (y : Outcome). y.said) q ∙ n)

stop_still : (layers : List Placed) (u : List ℕ) (d : Bool) (o : Outcome) → IsStanding layers → Passless layers u → drop_one layers u d ≡ Stops o → o.said ≡ Need → o ≡ outcome 0 layers Need
stop_still [] u d o k n h q = cc
stop_still (Prefix form ∷ below) u d o k n h q = cc
stop_still (Suffix end ∷ below) u d o k n h q = cc
stop_still (Http http ∷ below) u d o k n h q = at (is_behind http.receiving) h
  where
    at : (b : Bool) → (if b then End (outcome 0 below (Given (Number 0))) else drop_line http below u d (front_of_line u)) ≡ Stops o → o ≡ outcome 0 (Http http ∷ below) Need
    at true h = cc
    at false h = line_stops http below u d o (front_of_line u) h q
stop_still (Term t ∷ below) u d o k n h q = at t.met refl h
  where
    m : Outcome
    m = read_message below u d 16384

    at : (b : Bool) → t.met ≡ b → (if b then End (outcome 0 below (Given (Number 0))) else drop_message t m) ≡ Stops o → o ≡ outcome 0 (Term t ∷ below) Need
    at true e h = cc
    at false e h =
        let is : o ≡ record m { layers = Term t ∷ m.layers } = message_stops t m o h in
        let said : m.said ≡ Need = ap (λ (x : Outcome). x.said) (sym is) ∙ q in
        is ∙ ap (λ (x : Outcome). record x { layers = Term t ∷ x.layers }) (message_still below u d 16384 k.1 (below_passless t below u e n) said)
stop_still (Ws ws ∷ below) u d o k n h q = at ws.met h
  where
    at : (b : Bool) → (if b then End (outcome 0 below (Given (Number 0))) else drop_frames below (read_ws below ws u d drop_limit)) ≡ Stops o → o ≡ outcome 0 (Ws ws ∷ below) Need
    at true h = cc
    at false h =
        let is : o ≡ read_ws below ws u d 16384 = frames_stops below (read_ws below ws u d 16384) o h in
        is ∙ message_still (Ws ws ∷ below) u d 16384 k n (ap (λ (x : Outcome). x.said) (sym is) ∙ q)

-- ---- all that a look drops

-- a look that awaited more leaves well-formed layers, and hides nothing from a later one
record Sunk (random : Stream) (s : Held) : Type 0 where
  well : IsWell (look_all random s).stack.layers
  alike : (v : List ℕ) (e : Bool) → look_all random (more v e s) ≡ look_all (look_all random s).random (more v e (look_all random s).stack)

still_sunk : (random : Stream) (s : Held) → IsWell s.layers → look_all random s ≡ still random s → Sunk random s
still_sunk random s w h =
    record {
      well = subst (λ (l : Looked). IsWell l.stack.layers) (sym h) w;
      alike = λ v e. ap (λ (l : Looked). look_all l.random (more v e l.stack)) (sym h);
    }

-- a step to another stack, which more bytes don't change
step_sunk : (random r : Stream) (s t : Held) → look_all random s ≡ look_all r t → ((v : List ℕ) (e : Bool) → look_all random (more v e s) ≡ look_all r (more v e t)) → Sunk r t → Sunk random s
step_sunk random r s t h m a =
    record {
      well = subst (λ (l : Looked). IsWell l.stack.layers) (sym h) a.well;
      alike = λ v e. m v e ∙ a.alike v e ∙ ap (λ (l : Looked). look_all l.random (more v e l.stack)) (sym h);
    }

abbrev Sinks : ℕ → Type 0
Sinks most = (random : Stream) (s : Held) → length s.unread < most → IsWell s.layers → (look_all random s).said ≡ Need → Sunk random s

pass_sunk : (p : PrefixLaws) (q : SuffixLaws) (f : FrontStays) (most : ℕ) (random : Stream) (s : Held) (x : Passed) → length s.unread < suc most → IsWell s.layers → (look_all random s).said ≡ Need → next_pass 16384 s ≡ Some x → Sinks most → Sunk random s
pass_sunk p q f most random s x l w n e again =
    let i : IsPass 16384 s x = is_pass 16384 s x e in
    let j : steps.Moves i.ws s.unread x = steps.moves 16384 i.ws s.unread x i.pass in
    let t : Held = (stepped x random s).0 in
    let r : Stream = (stepped x random s).1 in
    let left : Left x s t = step_left x random s in
    let size : length t.unread ≡ length s.unread - x.used = ap length left.unread ∙ length-drop x.used s.unread in
    let k : IsStanding s.layers = stands_from s.layers w in
    let same : look_all random s ≡ look_all r t = look_step (length s.unread) random s x k e ∙ look_fuel p q (suc (length s.unread)) r t (omega (arith, size)) in
    step_sunk random r s t same
    (λ v b.
    let fits : length (more v b t).unread < suc (length (s.unread ++ v)) = omega (arith, length-append t.unread v, length-append s.unread v, size) in
    look_step (length (s.unread ++ v)) random (more v b s) x k (pass_stays f 16384 s v b x e)
    ∙ ap (λ (now : Held × Stream). look_within (suc (length (s.unread ++ v))) now.1 now.0) (step_more random s v b x j.there)
    ∙ look_fuel p q (suc (length (s.unread ++ v))) r (more v b t) fits)
    (again r t (omega (arith, l, size, j.some, j.there)) (subst IsWell (sym left.layers) ((with_shaped x.ws s.layers).1 w)) (ap (λ (y : Looked). y.said) (sym same) ∙ n))

-- one look at an item that is dropped
item_look : (p : PrefixLaws) (q : SuffixLaws) (random : Stream) (s : Held) (o : Outcome) → Quiet s.layers o → drop_one s.layers s.unread s.receiving.done ≡ Item o → length (drop o.used s.unread) < length s.unread → look_all random s ≡ look_all random (behind o s)
item_look p q random s o k h l =
    ap (λ x. looked_over (after_drop (dropped_within (length s.unread) s.receiving.done) s.unread x) random s) h
    ∙ look_item o (dropped_within (length s.unread) s.receiving.done o.layers (drop o.used s.unread)) random s k
    ∙ look_fuel p q (length s.unread) random (behind o s) l

stop_look : (o : Outcome) (random : Stream) (s : Held) (d : Dropped) → after_drop (dropped_within (length s.unread) s.receiving.done) s.unread d ≡ o → drop_one s.layers s.unread s.receiving.done ≡ d → look_all random s ≡ looked_over o random s
stop_look o random s d a h = ap (λ x. looked_over (after_drop (dropped_within (length s.unread) s.receiving.done) s.unread x) random s) h ∙ ap (λ (x : Outcome). looked_over x random s) a

no_number : {A : Type 0} → Given (Number 0) ≡ Need → A
no_number h = absurd (never h)
  where
    never : Given (Number 0) ≡ Need → ⊥
    never h = cc

none_sunk : (p : PrefixLaws) (q : SuffixLaws) (l : LineLaws) (f : FrontStays) (most : ℕ) (random : Stream) (s : Held) → length s.unread < suc most → IsWell s.layers → (look_all random s).said ≡ Need → next_pass 16384 s ≡ None → Sinks most → Sunk random s
none_sunk p q l f most random s z w n e again = at (drop_one s.layers s.unread s.receiving.done) refl
  where
    k : IsStanding s.layers
    k = stands_from s.layers w

    less : Passless s.layers s.unread
    less = passless s e

    at : (d : Dropped) → drop_one s.layers s.unread s.receiving.done ≡ d → Sunk random s
    at (Item o) h = by (subst (Steps s.layers s.unread s.receiving.done) h (one_steps p q s.layers s.unread s.receiving.done))
      where
        quiet : Quiet s.layers o
        quiet = subst (QuietDrop s.layers) h (drop_quiet s.layers s.unread s.receiving.done k less)

        kept : (v : List ℕ) (b : Bool) → ItemKept s.layers s.unread v (b || s.receiving.done) o
        kept v b = item_kept p q l f s.layers s.unread v s.receiving.done (b || s.receiving.done) o w less h

        there : o.used ≤ length s.unread
        there = (kept [] false).there

        by : Moves s.layers s.unread o → Sunk random s
        by (inl some) =
            let size : length (drop o.used s.unread) ≡ length s.unread - o.used = length-drop o.used s.unread in
            let same : look_all random s ≡ look_all random (behind o s) = item_look p q random s o quiet h (omega (arith, size, some.0, some.1)) in
            step_sunk random random s (behind o s) same
            (λ v b.
            let longer : length (s.unread ++ v) ≡ length s.unread + length v = length-append s.unread v in
            item_look p q random (more v b s) o quiet (kept v b).same (omega (arith, length-drop o.used (s.unread ++ v), longer, some.0, some.1))
            ∙ ap (λ u. look_all random (record (more v b (behind o s)) { unread = u })) (drop-append-le o.used s.unread v there))
            (again random (behind o s) (omega (arith, z, size, some.0, some.1)) (kept [] false).well (ap (λ (y : Looked). y.said) (sym same) ∙ n))
        by (inr same) =
            let here : Fixed s.layers s.unread s.receiving.done = inr (o.said, h ∙ ap Item same) in
            still_sunk random s w (looked_still (dropped_within (suc (length s.unread)) s.receiving.done s.layers s.unread) random s (fixed_stays (suc (length s.unread)) s.layers s.unread s.receiving.done here))
    at (End o) h =
        let said : o.said ≡ Given (Number 0) = subst (Steps s.layers s.unread s.receiving.done) h (one_steps p q s.layers s.unread s.receiving.done) in
        no_number (sym said ∙ ap (λ (y : Looked). y.said) (sym (stop_look o random s (End o) refl h)) ∙ n)
    at (Stops o) h =
        let look : look_all random s ≡ looked_over o random s = stop_look o random s (Stops o) refl h in
        let is : o ≡ outcome 0 s.layers Need = stop_still s.layers s.unread s.receiving.done o k less h (ap (λ (y : Looked). y.said) (sym look) ∙ n) in
        still_sunk random s w (look ∙ looked_still o random s is)

all_sunk : (p : PrefixLaws) (q : SuffixLaws) (l : LineLaws) (f : FrontStays) (most : ℕ) → Sinks most
all_sunk p q l f zero random s z w n = absurd (omega (arith, z))
all_sunk p q l f (suc most) random s z w n = at (next_pass 16384 s) refl (all_sunk p q l f most)
  where
    at : (o : Option Passed) → next_pass 16384 s ≡ o → Sinks most → Sunk random s
    at None e again = none_sunk p q l f most random s z w n e again
    at (Some x) e again = pass_sunk p q f most random s x z w n e again

-- ---- pongs are no part of what is to be sent

abbrev is_unsent : List Queued → Bool
is_unsent queue = list_any (λ item. not (is_pong item)) queue

pong_last : (queue : List Queued) (x : Queued) → is_pong x ≡ true → is_unsent (queue ++ x ∷ []) ≡ is_unsent queue
pong_last [] x e = ap (λ b. not b || false) e
pong_last (y ∷ queue) x e = ap (λ b. not (is_pong y) || b) (pong_last queue x e)

pong_in : (w : List ℕ) (queue : List Queued) → is_unsent (map (replaced w) queue) ≡ is_unsent queue
pong_in w [] = refl
pong_in w (y ∷ queue) = ap (λ b. not b || is_unsent (map (replaced w) queue)) (at (is_waiting_pong y)) ∙ ap (λ b. not (is_pong y) || b) (pong_in w queue)
  where
    at : (b : Bool) → is_pong (if b then record y { bytes = w } else y) ≡ is_pong y
    at true = refl
    at false = refl

pong_unsent : (w : List ℕ) (queue : List Queued) → is_unsent (with_pong w queue) ≡ is_unsent queue
pong_unsent w queue = at (list_any is_waiting_pong queue)
  where
    at : (b : Bool) → is_unsent (if b then map (replaced w) queue else queue ++ record { bytes = w; gone = 0; origin = Pong } ∷ []) ≡ is_unsent queue
    at true = pong_in w queue
    at false = pong_last queue (record { bytes = w; gone = 0; origin = Pong }) refl

pongs_unsent : (side : Side) (pings : List (List ℕ)) (now : List Queued × Stream) → is_unsent (ponged side pings now).0 ≡ is_unsent now.0
pongs_unsent side [] now = refl
pongs_unsent side (x ∷ pings) now = pongs_unsent side pings (with_pong (pong_of side x now.1).0 now.0, (pong_of side x now.1).1) ∙ pong_unsent (pong_of side x now.1).0 now.0

looked_sent : (o : Outcome) (random : Stream) (s : Held) → is_sent (looked_over o random s).stack ≡ is_sent s
looked_sent o random s = ap not (by (ws_of s.layers))
  where
    by : (w : Option WsLayer) → is_unsent (with_pongs_of w o.pings random (behind o s)).0.queue ≡ is_unsent s.queue
    by None = refl
    by (Some ws) = at (answers_pings ws s)
      where
        at : (b : Bool) → is_unsent (if b then ((record (behind o s) { queue = (ponged ws.side o.pings (s.queue, random)).0 }, (ponged ws.side o.pings (s.queue, random)).1)) else (let y : Held × Stream = (behind o s, random) in y)).0.queue ≡ is_unsent s.queue
        at true = pongs_unsent ws.side o.pings (s.queue, random)
        at false = refl

-- ---- a detach

finish_sent : (random : Stream) (s : Held) → is_sent s ≡ true → detach_finish random s ≡ left_over (look_all random s)
unfolding detach_finish dropped
finish_sent random s e = ap (λ b. if b then left_over (look_all random s) else still random s) e

finish_waits : (random : Stream) (s : Held) → is_sent s ≡ false → detach_finish random s ≡ still random s
unfolding detach_finish dropped
finish_waits random s e = ap (λ b. if b then left_over (look_all random s) else still random s) e

finish_awaited : (p : PrefixLaws) (q : SuffixLaws) (l : LineLaws) (f : FrontStays) (random : Stream) (s : Held) → IsWell s.layers → (detach_finish random s).said ≡ Need → Awaited detach_finish IsWell random s
finish_awaited p q l f random s w n = at (is_sent s) refl
  where
    at : (b : Bool) → is_sent s ≡ b → Awaited detach_finish IsWell random s
    at false e = still_awaited detach_finish IsWell random s w (finish_waits random s e)
    at true e =
        let look : Looked = look_all random s in
        let first : detach_finish random s ≡ left_over look = finish_sent random s e in
        let need : look.said ≡ Need = left_need look (ap (λ (x : Looked). x.said) (sym first) ∙ n) in
        let is : detach_finish random s ≡ look = first ∙ need_kept look need in
        let a : Sunk random s = all_sunk p q l f (suc (length s.unread)) random s (omega arith) w need in
        let sent : is_sent look.stack ≡ true = looked_sent (dropped_within (suc (length s.unread)) s.receiving.done s.layers s.unread) random s ∙ e in
        record {
          stands = subst (λ (x : Looked). IsWell x.stack.layers) (sym is) a.well;
          alike = λ v b.
              finish_sent random (more v b s) e
              ∙ ap left_over (a.alike v b)
              ∙ sym (finish_sent look.random (more v b look.stack) sent)
              ∙ ap (λ (x : Looked). detach_finish x.random (more v b x.stack)) (sym is);
        }

pub finishes_alike : PrefixLaws → SuffixLaws → LineLaws → FrontStays → FinishesAlike
finishes_alike p q l f s k g = looks_alike detach_finish IsWell (λ random t w n. finish_awaited p q l f random t w n) s (well_from s.layers k g)
