-- Whether somebody waits, by what a test finds.
use Rattle.std.proofs.Common.{◌≡◌, ◌<◌, Bool, true, false, List, [], ◌∷◌, length, cond, Option, Some, None, arith, refl}
use Rattle.std.specs.List.{find, filter}

module _ {X : Type 0} (test : X → Bool) where
  some_cons : (x y : X) (b : Bool) (xs : List X) (o : Option X) → cond b (Some x) o ≡ Some y → (o ≡ Some y → 0 < length xs) → 0 < length (cond b (x ∷ xs) xs)
  some_cons x y true xs o e rest = omega arith
  some_cons x y false xs o e rest = rest e

  pub some_waits : (y : X) (xs : List X) → find test xs ≡ Some y → 0 < length (filter test xs)
  some_waits y [] e = cc
  some_waits y (x ∷ xs) e = some_cons x y (test x) (filter test xs) (find test xs) e (some_waits y xs)

  none_cons : (x : X) (b : Bool) (xs : List X) (o : Option X) → cond b (Some x) o ≡ None → (o ≡ None → xs ≡ []) → cond b (x ∷ xs) xs ≡ []
  none_cons x true xs o e rest = cc
  none_cons x false xs o e rest = rest e

  pub none_waits : (xs : List X) → find test xs ≡ None → filter test xs ≡ []
  none_waits [] e = refl
  none_waits (x ∷ xs) e = none_cons x (test x) (filter test xs) (find test xs) e (none_waits xs)
