-- A loop that changes each element.
use Rattle.std.proofs.Common.{◌≡◌, ◌∙◌, ℕ, zero, suc, ◌+◌, ◌<◌, ◌≤◌, ◌++◌, List, [], ◌∷◌, length, map, take, drop, get_or, refl, sym, ap, add-one, arith}
use Rattle.std.proofs.Math.ListN.{set}

module _ {X : Type 0} (f : X → X) where
  changed_one : (xs : List X) (i : ℕ) (d : X) → i < length xs → set (map f (take i xs) ++ drop i xs) i (f (get_or (map f (take i xs) ++ drop i xs) i d)) ≡ map f (take (suc i) xs) ++ drop (suc i) xs
  changed_one [] i d h = absurd (omega (arith, h))
  changed_one (x ∷ xs) zero d h = refl
  changed_one (x ∷ xs) (suc i) d h = ap (λ ys. f x ∷ ys) (changed_one xs i d (omega (arith, h)))

  -- one more is changed
  pub changed_next : (xs zs : List X) (i : ℕ) (d y : X) → i < length xs → zs ≡ map f (take i xs) ++ drop i xs → y ≡ f (get_or zs i d) → set zs i y ≡ map f (take (i + 1) xs) ++ drop (i + 1) xs
  changed_next xs zs i d y h e g = ap (set zs i) g ∙ ap (λ ws. set ws i (f (get_or ws i d))) e ∙ changed_one xs i d h ∙ sym (ap (λ j. map f (take j xs) ++ drop j xs) (add-one i))

  -- all are changed
  pub changed_all : (xs : List X) (i : ℕ) → length xs ≤ i → map f (take i xs) ++ drop i xs ≡ map f xs
  changed_all [] zero h = refl
  changed_all [] (suc i) h = refl
  changed_all (x ∷ xs) zero h = absurd (omega (arith, h))
  changed_all (x ∷ xs) (suc i) h = ap (λ ys. f x ∷ ys) (changed_all xs i (omega (arith, h)))
