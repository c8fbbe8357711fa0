-- Fronts that reach over the end.
use Rattle.std.proofs.Common.{◌≡◌, ◌∙◌, ◌⊎◌, inl, inr, ◌<◌, ◌≤◌, ℕ, List, length, drop, min, sym, ap, arith}
use Rattle.std.proofs.Math.ListN.{drop_of_length-le}
use Rattle.std.proofs.Math.Seq.{drop-length}
use Rattle.std.proofs.lemmas.Bool.{cases_lt}

drop_cases : {X : Type 0} (n : ℕ) (xs : List X) → (n < length xs) ⊎ (length xs ≤ n) → drop (min n (length xs)) xs ≡ drop n xs
drop_cases n xs (inl less) =
    let e : min n (length xs) ≡ n = omega (arith, less) in
    ap (λ k. drop k xs) e
drop_cases n xs (inr most) =
    let e : min n (length xs) ≡ length xs = omega (arith, most) in
    ap (λ k. drop k xs) e ∙ drop-length xs ∙ sym (drop_of_length-le xs most)

pub drop_min : {X : Type 0} (n : ℕ) (xs : List X) → drop (min n (length xs)) xs ≡ drop n xs
drop_min n xs = drop_cases n xs (cases_lt n (length xs))
