-- Who isn't at home leaves nothing behind.
use Rattle.std.proofs.Common.{◌≡◌, ℕ, Bool, true, false, Option, Some, None, List, [], ◌∷◌, cond, find, option_map, refl, ap}
use Rattle.dill_base.specs.Maps.{without}
use Rattle.dill_scope.specs.Scopes.{Scopes, home_of, ended, is_home}

module _ {X : Type 0} (test : X → Bool) where
  without_cond : (b : Bool) (x : X) (xs : List X) → cond b (Some x) (find test xs) ≡ None → (find test xs ≡ None → without test xs ≡ xs) → cond b xs (x ∷ without test xs) ≡ x ∷ xs
  without_cond true x xs h rest = cc
  without_cond false x xs h rest = ap (λ ys. x ∷ ys) (rest h)

  pub without_none : (xs : List X) → find test xs ≡ None → without test xs ≡ xs
  without_none [] h = refl
  without_none (x ∷ xs) h = without_cond (test x) x xs h (without_none xs)

pub unmapped : {A B : Type 0} (f : A → B) (o : Option A) → option_map f o ≡ None → o ≡ None
unmapped f None h = refl
unmapped f (Some a) h = cc

pub nobody_left : (s : Scopes) (who : ℕ) → home_of s who ≡ None → s ≡ ended s who
nobody_left s who h = rw (without_none (is_home who) s.homes (unmapped (λ x. x.bundle) (find (is_home who) s.homes) h)) refl
