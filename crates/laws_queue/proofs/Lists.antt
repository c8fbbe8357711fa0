-- What holds of all of a list, as one changes or is gone, and who is found.
use Rattle.std.proofs.Common.{◌≡◌, ◌∙◌, ◌<◌, ◌≤◌, ◌==◌, ℕ, List, [], ◌∷◌, ◌++◌, map, filter, find, Bool, true, false, cond, Option, Some, refl, sym, ap, subst, arith, eq-eqb}
use Rattle.std.specs.List.{AllByRecursion}
use Rattle.std.proofs.lemmas.Bool.Decides.{nat_tests}
use Rattle.dill_base.specs.Maps.{change, without}

pub equal_number : (a b : ℕ) → a ≡ b → (a == b) ≡ true
equal_number a b e = eq-eqb a b e

pub number_of : (a b : ℕ) → (a == b) ≡ true → a ≡ b
number_of a b e = grind (arith, nat_tests)

pub above_of : (a b : ℕ) → a < b → (a == b) ≡ false
above_of a b h = grind (arith, nat_tests)

pub above_other : (a b n : ℕ) → a < b → n ≤ a → (b == n) ≡ false
above_other a b n h g = grind (arith, nat_tests)

pub some_same : {X : Type 0} (x y : X) → ◌≡◌ {A = Option X} (Some x) (Some y) → x ≡ y
some_same x y e = cc

module _ {X : Type 0} (P : X → Type 0) where
  pub all_append : (xs ys : List X) → AllByRecursion P xs → AllByRecursion P ys → AllByRecursion P (xs ++ ys)
  all_append [] ys a b = b
  all_append (x ∷ xs) ys a b = (a.0, all_append xs ys a.1 b)

  pub all_without : (pick : X → Bool) (xs : List X) → AllByRecursion P xs → AllByRecursion P (without pick xs)
  all_without pick [] a = tt
  all_without pick (x ∷ xs) a = at (pick x) (all_without pick xs a.1)
    where
      at : (found : Bool) → AllByRecursion P (without pick xs) → AllByRecursion P (cond found xs (x ∷ without pick xs))
      at true rest = a.1
      at false rest = (a.0, rest)

  -- the first that is picked is changed
  pub all_change : (pick : X → Bool) (f : X → X) (c : X) (xs : List X) → find pick xs ≡ Some c → P (f c) → AllByRecursion P xs → AllByRecursion P (change pick f xs)
  all_change pick f c [] e h a = tt
  all_change pick f c (x ∷ xs) e h a = at (pick x) e (λ g. all_change pick f c xs g h a.1)
    where
      at : (found : Bool) → cond found (Some x) (find pick xs) ≡ Some c → (find pick xs ≡ Some c → AllByRecursion P (change pick f xs)) → AllByRecursion P (cond found (f x ∷ xs) (x ∷ change pick f xs))
      at true g rest = (subst (λ y. P (f y)) (sym (some_same x c g)) h, a.1)
      at false g rest = (a.0, rest g)

  pub all_found : (pick : X → Bool) (c : X) (xs : List X) → find pick xs ≡ Some c → AllByRecursion P xs → P c
  all_found pick c [] e a = cc
  all_found pick c (x ∷ xs) e a = at (pick x) e (λ g. all_found pick c xs g a.1)
    where
      at : (found : Bool) → cond found (Some x) (find pick xs) ≡ Some c → (find pick xs ≡ Some c → P c) → P c
      at true g rest = subst P (some_same x c g) a.0
      at false g rest = rest g

  pub all_map : (f : X → X) (xs : List X) → ((x : X) → P x → P (f x)) → AllByRecursion P xs → AllByRecursion P (map f xs)
  all_map f [] h a = tt
  all_map f (x ∷ xs) h a = (h x a.0, all_map f xs h a.1)

pub all_filter : {X : Type 0} (P : X → Type 0) (test : X → Bool) (xs : List X) → AllByRecursion P xs → AllByRecursion P (filter test xs)
all_filter P test [] a = tt
all_filter P test (x ∷ xs) a = at (test x) (all_filter P test xs a.1)
  where
    at : (b : Bool) → AllByRecursion P (filter test xs) → AllByRecursion P (cond b (x ∷ filter test xs) (filter test xs))
    at true rest = (a.0, rest)
    at false rest = rest

pub all_to : {X : Type 0} (P Q : X → Type 0) (xs : List X) → ((x : X) → P x → Q x) → AllByRecursion P xs → AllByRecursion Q xs
all_to P Q [] h a = tt
all_to P Q (x ∷ xs) h a = (h x a.0, all_to P Q xs h a.1)

pub found_passes : {X : Type 0} (pick : X → Bool) (xs : List X) (c : X) → find pick xs ≡ Some c → pick c ≡ true
found_passes pick [] c e = cc
found_passes pick (x ∷ xs) c e = at (pick x) refl e (λ g. found_passes pick xs c g)
  where
    at : (found : Bool) → pick x ≡ found → cond found (Some x) (find pick xs) ≡ Some c → (find pick xs ≡ Some c → pick c ≡ true) → pick c ≡ true
    at true i g rest = ap pick (sym (some_same x c g)) ∙ i
    at false i g rest = rest g
