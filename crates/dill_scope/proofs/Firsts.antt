-- The first element that passes two tests, whichever is asked first.
use Rattle.std.proofs.Common.{◌≡◌, Bool, true, false, List, [], ◌∷◌, refl, cond}
use Rattle.std.specs.Prelude.{find, filter}

module _ {X : Type 0} (p q : X → Bool) where
  first_cons : (x : X) (xs : List X) (a b : Bool) → p x ≡ a → q x ≡ b → find p (filter q xs) ≡ find q (filter p xs) → find p (cond b (x ∷ filter q xs) (filter q xs)) ≡ find q (cond a (x ∷ filter p xs) (filter p xs))
  first_cons x xs true true e f rest = rw (e, f) refl
  first_cons x xs true false e f rest = rw (f, rest) refl
  first_cons x xs false true e f rest = rw (e, rest) refl
  first_cons x xs false false e f rest = rest

  pub first_of_both : (xs : List X) → find p (filter q xs) ≡ find q (filter p xs)
  first_of_both [] = refl
  first_of_both (x ∷ xs) = first_cons x xs (p x) (q x) refl refl (first_of_both xs)
