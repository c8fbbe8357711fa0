-- An end that stands at the front of a WebSocket layer is met.
use Rattle.std.proofs.Common.{◌≡◌, ◌+◌, ◌*◌, [], ◌∷◌, ◌++◌, List, ℕ, length, take, drop, arith, sym, ap, ◌∙◌, refl, Bool, true, false, ◌&&◌, Some, None, append_assoc, append-nil, length-append}
use Rattle.std.specs.Prelude.{◌==◌, if◌then◌else◌, is_some, is_none, Option}
use Rattle.std.specs.Str.{is_utf8}
use Rattle.std.proofs.lemmas.Bool.{false≢true}
use Rattle.std.proofs.lemmas.Str.{is_utf8-from_IsUtf8}
use Rattle.std.proofs.lemmas.List.{length-take-le, take-append-drop}
use Rattle.std.proofs.Math.Seq.{drop-append_seam}
use Rattle.dill_base.specs.declared.errno.Errno.TheVariants.{Epipe, Eproto}
use Rattle.dill_ws.specs.Closing.{ClosePayload, close_of, is_close_code}
use Rattle.dill_ws.specs.Frames.{Part, peer_of}
use Rattle.dill_ws.specs.FrameLaws.{FrameLaws}
use Rattle.dill_ws.specs.Fronts.{head_front}
use Rattle.dill_stack.specs.declared.want.ReadOut.TheVariants.{Fault}
use Rattle.dill_stack.specs.Layers.{Placed, Ws, WsLayer}
use Rattle.dill_stack.specs.WsReading.{passed, pass_by_front, ws_front, Whole, Short, Shown, shown, shown_by}
use Rattle.dill_stack.specs.Passing.{pings_of, with_parts}
use Rattle.dill_stack.specs.Read.{outcome, behind_passed, read_ws}
use Rattle.dill_stack.specs.Ending.{CloseStands, IsBetween, close_part, ended_outcome}
use Rattle.dill_stack.proofs.Passings.{empty_front}
use Rattle.dill_stack.proofs.PassedParts.{AtFront, front_whole, joins_behind, passed_front}
use Rattle.dill_stack.proofs.JoinedReads.{IsSplit, frames_split, read_shown}

-- an allowed payload carries a code
pub close_some : (code : ℕ) (payload : List ℕ) → ClosePayload code payload → is_some (close_of payload) ≡ true
close_some code [] p = refl
close_some code (half ∷ []) p = absurd p
close_some code (high ∷ low ∷ reason) p = by_tests (is_close_code (high * 256 + low)) (is_utf8 reason) (ap is_close_code (sym p.0) ∙ p.1) (is_utf8-from_IsUtf8 reason p.2)
  where
    by_tests : (a b : Bool) → a ≡ true → b ≡ true → is_some (if a && b then Some (high * 256 + low) else None) ≡ true
    by_tests true true e f = refl
    by_tests true false e f = cc
    by_tests false b e f = cc

-- what is shown by a close frame
close_shown : (limit : ℕ) (ended : Bool) (ws : WsLayer) (u payload : List ℕ) (used : ℕ) → ws_front limit ws u ≡ Whole (close_part payload) used → is_some (close_of payload) ≡ true → shown limit ended ws u ≡ record { used = used; ws = record ws { met = true }; said = Fault Epipe }
unfolding shown
close_shown limit ended ws u payload used f e = ap (shown_by ended ws u) f ∙ by_test (is_some (close_of payload)) e
  where
    by_test : (b : Bool) → b ≡ true → (let met : Shown = record { used = used; ws = record ws { met = true }; said = Fault Epipe } in let bad : Shown = record { used = 0; ws = ws; said = Fault Eproto } in (if b then met else bad) ≡ met)
    by_test true h = refl
    by_test false h = cc

pub close_read : (laws : FrameLaws) (limit : ℕ) (below : List Placed) (ws : WsLayer) (u : List ℕ) (n : ℕ) (ended : Bool) → ws.met ≡ false → (s : CloseStands limit ws u n) → read_ws below ws u ended limit ≡ ended_outcome below (record (with_parts s.before ws) { met = true }) n s.before
close_read laws limit below ws u n ended met s =
    let last : Part = close_part s.payload in
    let k : IsSplit (peer_of ws.side) s.before last (take n u) = frames_split (peer_of ws.side) s.before last (take n u) s.frames in
    let rest : List ℕ = drop n u in
    let whole : u ≡ k.first ++ (k.second ++ rest) = sym (take-append-drop n u) ∙ ap (λ x. x ++ rest) k.whole ∙ append_assoc k.first k.second rest in
    let behind : WsLayer = with_parts s.before ws in
    let front : ws_front limit behind (k.second ++ rest) ≡ Whole last (length k.second) = front_whole laws limit behind last k.second rest k.frame k.frame.allowed (λ d. absurd (false≢true d)) in
    let at : AtFront limit ws s.before k.first (k.second ++ rest) = record { frames = k.frames; follows = s.follows; passing = s.passing; within = s.within; stops = ap (pass_by_front behind) front } in
    let answer : Shown = record { used = length k.second; ws = record behind { met = true }; said = Fault Epipe } in
    let used : length k.first + length k.second ≡ n = omega (arith, sym (length-take-le n u s.there), ap length k.whole, length-append k.first k.second) in
    read_shown limit below ws u (k.second ++ rest) ended (record { used = length k.first; ws = behind; pings = pings_of s.before }) answer met (passed_front laws limit ws s.before u k.first (k.second ++ rest) at whole) (ap (drop (length k.first)) whole ∙ drop-append_seam k.first (k.second ++ rest))
    (close_shown limit ended behind (k.second ++ rest) s.payload (length k.second) front (close_some s.code s.payload s.allowed))
    ∙ ap (λ x. ended_outcome below (record behind { met = true }) x s.before) used

-- nothing is there, and no message is being joined
empty_short : (limit : ℕ) (ws : WsLayer) → ws_front limit ws [] ≡ Short
unfolding ws_front head_front
empty_short limit ws = refl

none_of : (o : Option ℕ) → is_some o ≡ false → is_none o ≡ true
none_of None e = refl
none_of (Some n) e = cc

over_shown : (limit : ℕ) (ws : WsLayer) → is_some ws.joining ≡ false → shown limit true ws [] ≡ record { used = 0; ws = ws; said = Fault Epipe }
unfolding shown
over_shown limit ws e = ap (shown_by true ws []) (empty_short limit ws) ∙ by_test (is_none ws.joining) (none_of ws.joining e)
  where
    by_test : (b : Bool) → b ≡ true → (let s : Shown = record { used = 0; ws = ws; said = if length {A = ℕ} [] == 0 && b then Fault Epipe else Fault Eproto } in let t : Shown = record { used = 0; ws = ws; said = Fault Epipe } in s ≡ t)
    by_test true h = refl
    by_test false h = cc

pub over_read : (laws : FrameLaws) (limit : ℕ) (below : List Placed) (ws : WsLayer) (u : List ℕ) → ws.met ≡ false → (s : IsBetween limit ws u) → read_ws below ws u true limit ≡ ended_outcome below (with_parts s.parts ws) (length u) s.parts
over_read laws limit below ws u met s =
    let behind : WsLayer = with_parts s.parts ws in
    let bare : u ≡ u ++ [] = sym (append-nil u) in
    let at : AtFront limit ws s.parts u [] = record { frames = s.frames; follows = s.follows; passing = s.passing; within = s.within; stops = empty_front limit behind } in
    let answer : Shown = record { used = 0; ws = behind; said = Fault Epipe } in
    let used : length u + 0 ≡ length u = omega arith in
    read_shown limit below ws u [] true (record { used = length u; ws = behind; pings = pings_of s.parts }) answer met (passed_front laws limit ws s.parts u u [] at bare) (ap (drop (length u)) bare ∙ drop-append_seam u [])
    (over_shown limit behind (joins_behind ws s.parts s.passing ∙ s.unjoined))
    ∙ ap (λ x. ended_outcome below behind x s.parts) used

pub met_read : (limit : ℕ) (below : List Placed) (ws : WsLayer) (u : List ℕ) (ended : Bool) → ws.met ≡ true → read_ws below ws u ended limit ≡ outcome 0 (Ws ws ∷ below) (Fault Epipe)
met_read limit below ws u ended e = by_test ws.met e
  where
    by_test : (b : Bool) → b ≡ true → (if b then outcome 0 (Ws ws ∷ below) (Fault Epipe) else behind_passed below (passed limit ws u) (shown limit ended (passed limit ws u).ws (drop (passed limit ws u).used u))) ≡ outcome 0 (Ws ws ∷ below) (Fault Epipe)
    by_test true h = refl
    by_test false h = cc
