-- The bytes of a short frame, field by field.
use Rattle.std.proofs.Common.{◌≡◌, ◌+◌, ◌≤◌, ◌<◌, ℕ, suc, List, [], ◌∷◌, ◌++◌, true, length, take, get_or, Some, refl, ap, arith, lt-ltb}
use Rattle.std.proofs.lemmas.List.{take_at}
use Rattle.dill_ws.specs.Frames.{frame_bytes, masked_from}

pub four_bytes : (key : List ℕ) → length key ≡ 4 → get_or key 0 0 ∷ get_or key 1 0 ∷ get_or key 2 0 ∷ get_or key 3 0 ∷ [] ≡ key
four_bytes [] h = absurd (omega arith)
four_bytes (a ∷ []) h = absurd (omega arith)
four_bytes (a ∷ b ∷ []) h = absurd (omega arith)
four_bytes (a ∷ b ∷ c ∷ []) h = absurd (omega arith)
four_bytes (a ∷ b ∷ c ∷ d ∷ []) h = refl
four_bytes (a ∷ b ∷ c ∷ d ∷ e ∷ f) h = absurd (omega arith)

pub masked_control : (key place post payload : List ℕ) (op : ℕ) → length payload ≤ 125 → length key ≡ 4 → length place ≡ length payload → place ≡ masked_from 0 key payload
    → take (6 + length payload) ((128 + op) ∷ (128 + length payload) ∷ get_or key 0 0 ∷ get_or key 1 0 ∷ get_or key 2 0 ∷ get_or key 3 0 ∷ (place ++ post)) ≡ frame_bytes true op (Some key) payload
masked_control key place post payload op short four same is =
    let front : take (length payload) (place ++ post) ≡ place = take_at place post (length payload) same in
    let six : 6 + length payload ≡ suc (suc (suc (suc (suc (suc (length payload)))))) = omega arith in
    let small : length payload < 126 = omega arith in
    let key_is = four_bytes key four in
    rw (six, front, is, lt-ltb (length payload) 126 small) (ap (λ (k : List ℕ). (128 + op) ∷ (128 + length payload) ∷ (k ++ masked_from 0 key payload)) key_is)
