-- An element that passes, by place and by recursion.
use Rattle.std.proofs.Common.{◌≡◌, ◌<◌, ℕ, suc, zero, List, [], ◌∷◌, Bool, true, false, length, arith, sym, refl}
use Rattle.std.proofs.lemmas.Bool.{or_right}
use Rattle.std.specs.List.{list_any, AllWithin, HoldsAt}
use Rattle.std.specs.Prelude.{MatchBool}

any_at : {X : Type 0} (p : X → Bool) (xs : List X) (k : ℕ) → k < length xs → HoldsAt (λ x. p x ≡ true) xs k → list_any p xs ≡ true
any_at p [] k l h = absurd (omega arith)
any_at p (x ∷ xs) zero l h = rw (h x) refl
any_at p (x ∷ xs) (suc k) l h = or_right (p x) (list_any p xs) (any_at p xs k (omega arith) h)

none_within : {X : Type 0} (p : X → Bool) (xs : List X) → AllWithin (λ x. p x ≡ false) xs 0 (length xs) → list_any p xs ≡ false
none_within p [] h = refl
none_within p (x ∷ xs) h = rw (h 0 x (omega arith) (omega arith)) (none_within p xs (λ k d a b. h (suc k) d (omega arith) (omega arith)))

pub any_answer : {X : Type 0} (p : X → Bool) (xs : List X) (r : Bool) → MatchBool r ((k : ℕ) × (k < length xs) × HoldsAt (λ x. p x ≡ true) xs k) (AllWithin (λ x. p x ≡ false) xs 0 (length xs)) → r ≡ list_any p xs
any_answer p xs true h = sym (any_at p xs h.0 h.1 h.2)
any_answer p xs false h = sym (none_within p xs h)
