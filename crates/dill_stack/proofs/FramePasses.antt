-- The frame at the front that is passed, by its opcode.
use Rattle.std.proofs.Common.{◌≡◌, ◌≤◌, ◌+◌, [], ◌∷◌, List, ℕ, length, take, drop, slice_index, arith, sym, ap, ◌∙◌, refl, Bool, true, false, not, ◌&&◌, Some, None, if◌then◌else◌, le-leb}
use Rattle.std.specs.Prelude.{◌==◌, is_some}
use Rattle.std.proofs.lemmas.Bool.{ne_eqb}
use Rattle.dill_ws.specs.declared.head.Head.{Head}
use Rattle.dill_ws.specs.Frames.{Part}
use Rattle.dill_ws.specs.FrameLaws.{payload_at}
use Rattle.dill_ws.specs.Fronts.{bits_of}
use Rattle.dill_stack.specs.Layers.{WsLayer}
use Rattle.dill_stack.specs.WsReading.{Passed, pass_of, part_of, ws_front, Whole, is_data, length_at, with_part}
use Rattle.dill_stack.proofs.Limits.{FrameAt, frame_at, HeadShown, head_shown, payload_within, part_within, length_masked}
use Rattle.dill_stack.proofs.Passings.{started}
use Rattle.dill_stack.proofs.FrameShort.{control_small}

-- the payload of a control frame is short
pub control_at : (limit : ℕ) (ws : WsLayer) (u : List ℕ) (h : Head) (used : ℕ) → ws_front limit ws u ≡ Whole (part_of h u) used → is_data h.opcode ≡ false → length (take h.length (drop h.start u)) ≤ 125
control_at limit ws u h used e d =
    let a : FrameAt ws u (part_of h u) used = frame_at limit ws u (part_of h u) used e in
    let s : HeadShown ws.side u a.h = head_shown ws.side (is_some ws.joining) u a.h a.read in
    let size : a.h.length ≡ length_at u = ap (λ (x : Head). x.length) (sym s.same) in
    let code : a.h.opcode ≡ h.opcode = ap (λ (p : Part). p.opcode) (sym a.part_is) in
    let few : length_at u ≤ 125 = control_small (is_some ws.joining) a.h.fin a.h.opcode (bits_of (slice_index u 1)) (drop 2 u) (started ws.side (is_some ws.joining) u a.h a.read) (ap is_data code ∙ d) in
    let same : length (payload_at h u) ≡ length (payload_at a.h u) = ap (λ (p : Part). length p.payload) a.part_is in
    let within : length (payload_at a.h u) ≤ a.h.length = payload_within a.h u in
    let bare : length (payload_at h u) ≡ length (take h.length (drop h.start u)) = length_masked h.key (take h.length (drop h.start u)) in
    omega (arith, bare, same, within, size, few)

-- a part of a message keeps within the limit with what was joined before it
pub part_at : (limit : ℕ) (ws : WsLayer) (u : List ℕ) (h : Head) (used : ℕ) → ws_front limit ws u ≡ Whole (part_of h u) used → h.opcode ≤ 2 → length ws.joined + length (take h.length (drop h.start u)) ≤ limit
part_at limit ws u h used e l =
    let w = part_within limit ws u (part_of h u) used e (le-leb h.opcode 2 l) in
    let bare : length (payload_at h u) ≡ length (take h.length (drop h.start u)) = length_masked h.key (take h.length (drop h.start u)) in
    omega (arith, w, bare)

abbrev coded : Head → List ℕ → ℕ → Part
coded h u opcode = record { fin = h.fin; opcode = opcode; payload = payload_at h u }

pub passes_ping : (ws : WsLayer) (h : Head) (u : List ℕ) (used : ℕ) → h.opcode ≡ 9 → pass_of ws (part_of h u) used ≡ Some (record { used = used; ws = ws; pings = payload_at h u ∷ [] })
passes_ping ws h u used e = ap (λ o. pass_of ws (coded h u o) used) e

pub passes_pong : (ws : WsLayer) (h : Head) (u : List ℕ) (used : ℕ) → h.opcode ≡ 10 → pass_of ws (part_of h u) used ≡ Some (record { used = used; ws = ws; pings = [] })
passes_pong ws h u used e = ap (λ o. pass_of ws (coded h u o) used) e

third_pass : (a b c d : Bool) (x y z : Passed) → a ≡ false → b ≡ false → c ≡ true → d ≡ false → (if a then Some x else if b then Some y else if c && not d then Some z else None) ≡ Some z
third_pass true b c d x y z e f g h = cc
third_pass false true c d x y z e f g h = cc
third_pass false false false d x y z e f g h = cc
third_pass false false true true x y z e f g h = cc
third_pass false false true false x y z e f g h = refl

pub passes_part : (ws : WsLayer) (h : Head) (u : List ℕ) (used : ℕ) → h.opcode ≤ 2 → h.fin ≡ false → pass_of ws (part_of h u) used ≡ Some (record { used = used; ws = with_part (part_of h u) ws; pings = [] })
passes_part ws h u used l f = third_pass (h.opcode == 9) (h.opcode == 10) (is_data h.opcode) h.fin _ _ _ (ne_eqb h.opcode 9 (λ e. omega (arith, l, e))) (ne_eqb h.opcode 10 (λ e. omega (arith, l, e))) (le-leb h.opcode 2 l) f
