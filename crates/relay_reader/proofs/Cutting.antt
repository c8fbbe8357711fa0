-- The first line of some bytes.
use Rattle.std.proofs.Common.{◌≡◌, ◌≢◌, ◌∙◌, ℕ, zero, suc, ◌-◌, ◌<◌, List, [], ◌∷◌, length, take, drop, get_or, true, false, nat_eq, refl, ap, arith, length-drop}
use Rattle.std.proofs.lemmas.Bool.Decides.{nat_tests}
use Rattle.std.proofs.lemmas.List.{take_all}
use Rattle.dill_script.specs.Lines.{longer, pieces, without_cr}

longer_piece : (byte : ℕ) (bytes : List ℕ) → byte ≢ 10 → pieces (byte ∷ bytes) ≡ longer byte (pieces bytes)
longer_piece byte bytes ne = let test : nat_eq byte 10 ≡ false = grind (arith, nat_tests) in rw test refl

pub pieces_front : (bytes : List ℕ) (i : ℕ) → i < length bytes → ((k : ℕ) → k < i → get_or bytes k 0 ≢ 10) → get_or bytes i 0 ≡ 10 → pieces bytes ≡ take i bytes ∷ pieces (drop (suc i) bytes)
pieces_front [] i lt before here = absurd (omega arith)
pieces_front (byte ∷ bytes) zero lt before here = let test : nat_eq byte 10 ≡ true = grind (arith, nat_tests) in rw test refl
pieces_front (byte ∷ bytes) (suc i) lt before here =
    longer_piece byte bytes (before 0 (omega arith)) ∙ ap (longer byte) (pieces_front bytes i (omega arith) (λ k less. before (suc k) (omega arith)) here)

pub pieces_all : (bytes : List ℕ) → 0 < length bytes → ((k : ℕ) → k < length bytes → get_or bytes k 0 ≢ 10) → pieces bytes ≡ bytes ∷ []
pieces_all [] some each = absurd (omega arith)
pieces_all (byte ∷ []) some each = longer_piece byte [] (each 0 (omega arith))
pieces_all (byte ∷ next ∷ bytes) some each =
    longer_piece byte (next ∷ bytes) (each 0 (omega arith)) ∙ ap (longer byte) (pieces_all (next ∷ bytes) (omega arith) (λ k less. each (suc k) (omega arith)))

-- a slice from a place to the end
pub rest_from : (bytes : List ℕ) (n : ℕ) → take (length bytes - n) (drop n bytes) ≡ drop n bytes
rest_from bytes n = take_all (length bytes - n) (drop n bytes) (simp length-drop (omega arith))

pub return_dropped : (line : List ℕ) (n : ℕ) → length line ≡ suc n → get_or line n 0 ≡ 13 → without_cr line ≡ take n line
return_dropped [] n some here = absurd (omega arith)
return_dropped (byte ∷ []) zero some here = let test : nat_eq byte 13 ≡ true = grind (arith, nat_tests) in rw test refl
return_dropped (byte ∷ []) (suc n) some here = absurd (omega arith)
return_dropped (byte ∷ next ∷ rest) zero some here = absurd (omega arith)
return_dropped (byte ∷ next ∷ rest) (suc n) some here = ap (λ front. byte ∷ front) (return_dropped (next ∷ rest) n (omega arith) here)

pub return_kept : (line : List ℕ) (n : ℕ) → length line ≡ suc n → get_or line n 0 ≢ 13 → without_cr line ≡ line
return_kept [] n some here = absurd (omega arith)
return_kept (byte ∷ []) zero some here = let test : nat_eq byte 13 ≡ false = grind (arith, nat_tests) in rw test refl
return_kept (byte ∷ []) (suc n) some here = absurd (omega arith)
return_kept (byte ∷ next ∷ rest) zero some here = absurd (omega arith)
return_kept (byte ∷ next ∷ rest) (suc n) some here = ap (λ front. byte ∷ front) (return_kept (next ∷ rest) n (omega arith) here)
