-- Where one is found that passes another test, one is found by that.
use Rattle.std.proofs.Common.{◌≡◌, ◌∙◌, ℕ, ◌==◌, List, [], ◌∷◌, find, Bool, true, false, cond, Option, Some, ap, refl, arith}
use Rattle.std.specs.Option.{is_some}

module _ {X : Type 0} where
  found_too_at : (q : X → Bool) (b : Bool) (x y : X) (xs : List X) (rest : Option X) → cond b (Some x) rest ≡ Some y → q y ≡ true → (rest ≡ Some y → is_some (find q xs) ≡ true) → is_some (cond (q x) (Some x) (find q xs)) ≡ true
  found_too_at q true x y xs rest e f g = let it : x ≡ y = cc in let same : q x ≡ true = ap q it ∙ f in rw same refl
  found_too_at q false x y xs rest e f g = kept (q x) (g e)
    where
      kept : (b : Bool) → is_some (find q xs) ≡ true → is_some (cond b (Some x) (find q xs)) ≡ true
      kept true h = refl
      kept false h = h

  pub found_too : (pick q : X → Bool) (xs : List X) (y : X) → find pick xs ≡ Some y → q y ≡ true → is_some (find q xs) ≡ true
  found_too pick q [] y e f = cc
  found_too pick q (x ∷ xs) y e f = found_too_at q (pick x) x y xs (find pick xs) e f (λ g. found_too pick q xs y g f)

pub same_number : (n : ℕ) → (n == n) ≡ true
same_number n = grind arith
