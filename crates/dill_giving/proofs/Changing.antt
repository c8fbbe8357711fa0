-- What becomes of the one that a test finds, or of none.
use Rattle.std.proofs.Common.{◌≡◌, Bool, true, false, List, [], ◌∷◌, find, refl, ap, cond, Some, None}
use Rattle.dill_base.specs.Maps.{change}

module _ {X : Type 0} (test : X → Bool) where
  module _ (f : X → X) where
    absent_at : (x : X) (xs : List X) (b : Bool) → test x ≡ b → cond b (Some x) (find test xs) ≡ None → (find test xs ≡ None → change test f xs ≡ xs) → change test f (x ∷ xs) ≡ x ∷ xs
    absent_at x xs true e none rest = cc
    absent_at x xs false e none rest = rw e (ap (λ ys. x ∷ ys) (rest none))

    -- none is changed
    pub absent : (xs : List X) → find test xs ≡ None → change test f xs ≡ xs
    absent [] none = refl
    absent (x ∷ xs) none = absent_at x xs (test x) refl none (absent xs)

  module _ (f : X → X) (old new : X) (is : new ≡ f old) where
    changed_at : (x : X) (xs : List X) (b : Bool) → test x ≡ b → cond b (Some x) (find test xs) ≡ Some old → (find test xs ≡ Some old → change test (λ row. new) xs ≡ change test f xs) → change test (λ row. new) (x ∷ xs) ≡ change test f (x ∷ xs)
    changed_at x xs true e there rest =
        let same : x ≡ old = cc in
        rw e (ap (λ y. y ∷ xs) (rw same is))
    changed_at x xs false e there rest = rw e (ap (λ ys. x ∷ ys) (rest there))

    -- what is put there is what becomes of it
    pub changed : (xs : List X) → find test xs ≡ Some old → change test (λ row. new) xs ≡ change test f xs
    changed [] there = cc
    changed (x ∷ xs) there = changed_at x xs (test x) refl there (changed xs)

  kept_at : (x : X) (xs : List X) (b : Bool) → test x ≡ b → change test (λ y. y) xs ≡ xs → change test (λ y. y) (x ∷ xs) ≡ x ∷ xs
  kept_at x xs true e rest = rw e refl
  kept_at x xs false e rest = rw e (ap (λ ys. x ∷ ys) rest)

  -- what becomes itself
  pub kept : (xs : List X) → change test (λ y. y) xs ≡ xs
  kept [] = refl
  kept (x ∷ xs) = kept_at x xs (test x) refl (kept xs)
