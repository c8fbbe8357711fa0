-- A test that each element of a list passes: it is still passed once one is changed or gone, and by one that is found.
use Rattle.std.proofs.Common.{◌≡◌, Bool, true, false, List, [], ◌∷◌, Option, Some, find, cond}
use Rattle.std.proofs.lemmas.Bool.{and_parts, and_from}
use Rattle.std.specs.List.{list_all}
use Rattle.dill_base.specs.Maps.{change, without}

module _ {X : Type 0} (p : X → Bool) (test : X → Bool) where
  all_cond : (b : Bool) (xs ys : List X) → list_all p xs ≡ true → list_all p ys ≡ true → list_all p (cond b xs ys) ≡ true
  all_cond true xs ys h k = h
  all_cond false xs ys h k = k

  pub all_change : (f : X → X) → ((x : X) → p (f x) ≡ true) → (xs : List X) → list_all p xs ≡ true → list_all p (change test f xs) ≡ true
  all_change f holds [] all = all
  all_change f holds (x ∷ xs) all =
      let parts : (p x ≡ true) × (list_all p xs ≡ true) = and_parts (p x) (list_all p xs) all in
      all_cond (test x) (f x ∷ xs) (x ∷ change test f xs) (and_from (p (f x)) (list_all p xs) (holds x) parts.1) (and_from (p x) (list_all p (change test f xs)) parts.0 (all_change f holds xs parts.1))

  pub all_without : (xs : List X) → list_all p xs ≡ true → list_all p (without test xs) ≡ true
  all_without [] all = all
  all_without (x ∷ xs) all =
      let parts : (p x ≡ true) × (list_all p xs ≡ true) = and_parts (p x) (list_all p xs) all in
      all_cond (test x) xs (x ∷ without test xs) parts.1 (and_from (p x) (list_all p (without test xs)) parts.0 (all_without xs parts.1))

  found_cond : (b : Bool) (x y : X) (o : Option X) → p x ≡ true → (o ≡ Some y → p y ≡ true) → cond b (Some x) o ≡ Some y → p y ≡ true
  found_cond true x y o h rest e = let same : x ≡ y = cc in rw (← same) h
  found_cond false x y o h rest e = rest e

  pub all_found : (xs : List X) (y : X) → list_all p xs ≡ true → find test xs ≡ Some y → p y ≡ true
  all_found [] y all e = cc
  all_found (x ∷ xs) y all e =
      let parts : (p x ≡ true) × (list_all p xs ≡ true) = and_parts (p x) (list_all p xs) all in
      found_cond (test x) x y (find test xs) parts.0 (all_found xs y parts.1) e
