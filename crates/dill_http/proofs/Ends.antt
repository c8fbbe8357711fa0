-- The last byte of a list.
use Rattle.std.proofs.Common.{◌≡◌, ◌<◌, ◌-◌, ◌++◌, ◌∷◌, [], List, ℕ, suc, length, get_or, arith, refl, Bool}
use Rattle.dill_http.specs.Bytes.{ends_with}

pub ends_at : (test : ℕ → Bool) (xs : List ℕ) (d : ℕ) → 0 < length xs → ends_with test xs ≡ test (get_or xs (length xs - 1) d)
ends_at test [] d h = absurd (omega arith)
ends_at test (x ∷ []) d h = refl
ends_at test (x ∷ y ∷ xs) d h =
    let e : length (x ∷ y ∷ xs) - 1 ≡ suc (length (y ∷ xs) - 1) = omega arith in
    rw e (ends_at test (y ∷ xs) d (omega arith))

pub ends_snoc : (test : ℕ → Bool) (xs : List ℕ) (b : ℕ) → ends_with test (xs ++ b ∷ []) ≡ test b
ends_snoc test [] b = refl
ends_snoc test (x ∷ []) b = refl
ends_snoc test (x ∷ y ∷ xs) b = ends_snoc test (y ∷ xs) b
