-- What stays true of lists when elements are added, taken out or changed.
use Rattle.std.proofs.Common.{◌≡◌, ◌<◌, ◌≤◌, List, [], ◌∷◌, ◌++◌, length, Bool, true, false, refl, arith, inl, inr}
use Rattle.std.specs.Prelude.{not, map, filter, drop}
use Rattle.std.specs.List.{list_any, list_all}
use Rattle.std.proofs.lemmas.Bool.{or_parts, or_cases, or_left, or_right, and_parts, and_from, not-true, not_from_false, cases_Bool, false≢true}
use Rattle.dill_slots.specs.Pairs.{each_pair}

module _ {X : Type 0} where
  -- where no element passes, each one fails
  pub none_all : (p : X → Bool) (xs : List X) → list_any p xs ≡ false → list_all (λ x. not (p x)) xs ≡ true
  none_all p [] none = refl
  none_all p (x ∷ xs) none =
      let parts = or_parts (p x) (list_any p xs) none in
      and_from (not (p x)) (list_all (λ y. not (p y)) xs) (not_from_false (p x) parts.0) (none_all p xs parts.1)

  -- where each element fails, none passes
  pub all_none : (p : X → Bool) (xs : List X) → list_all (λ x. not (p x)) xs ≡ true → list_any p xs ≡ false
  all_none p [] all = refl
  all_none p (x ∷ xs) all =
      let parts = and_parts (not (p x)) (list_all (λ y. not (p y)) xs) all in
      rw (not-true (p x) parts.0) (all_none p xs parts.1)

  -- a test that follows from another
  pub all_weaker : (p r : X → Bool) → ((x : X) → p x ≡ true → r x ≡ true) → (xs : List X) → list_all p xs ≡ true → list_all r xs ≡ true
  all_weaker p r f [] all = refl
  all_weaker p r f (x ∷ xs) all =
      let parts = and_parts (p x) (list_all p xs) all in
      and_from (r x) (list_all r xs) (f x parts.0) (all_weaker p r f xs parts.1)

  pub any_weaker : (p r : X → Bool) → ((x : X) → p x ≡ true → r x ≡ true) → (xs : List X) → list_any p xs ≡ true → list_any r xs ≡ true
  any_weaker p r f [] some = absurd (false≢true some)
  any_weaker p r f (x ∷ xs) some =
      elim (or_cases (p x) (list_any p xs) some) [
        | inl e ↦ or_left (r x) (list_any r xs) (f x e)
        | inr e ↦ or_right (r x) (list_any r xs) (any_weaker p r f xs e)
      ]

  -- a test that follows from two others
  pub all_both : (p q r : X → Bool) → ((x : X) → p x ≡ true → q x ≡ true → r x ≡ true) → (xs : List X) → list_all p xs ≡ true → list_all q xs ≡ true → list_all r xs ≡ true
  all_both p q r f [] all also = refl
  all_both p q r f (x ∷ xs) all also =
      let parts = and_parts (p x) (list_all p xs) all in
      let others = and_parts (q x) (list_all q xs) also in
      and_from (r x) (list_all r xs) (f x parts.0 others.0) (all_both p q r f xs parts.1 others.1)

  -- one more element that passes
  pub all_added : (p : X → Bool) (xs : List X) (x : X) → list_all p xs ≡ true → p x ≡ true → list_all p (xs ++ x ∷ []) ≡ true
  all_added p [] x all pass = and_from (p x) true pass refl
  all_added p (y ∷ ys) x all pass =
      let parts = and_parts (p y) (list_all p ys) all in
      and_from (p y) (list_all p (ys ++ x ∷ [])) parts.0 (all_added p ys x parts.1 pass)

  pub any_added : (p : X → Bool) (xs : List X) (x : X) → list_any p xs ≡ true → list_any p (xs ++ x ∷ []) ≡ true
  any_added p [] x some = absurd (false≢true some)
  any_added p (y ∷ ys) x some =
      elim (or_cases (p y) (list_any p ys) some) [
        | inl e ↦ or_left (p y) (list_any p (ys ++ x ∷ [])) e
        | inr e ↦ or_right (p y) (list_any p (ys ++ x ∷ [])) (any_added p ys x e)
      ]

  -- an element that passes nothing that is there, and isn't passed by the new one
  pub none_added : (p : X → Bool) (xs : List X) (x : X) → list_any p xs ≡ false → p x ≡ false → list_any p (xs ++ x ∷ []) ≡ false
  none_added p [] x none no_pass = rw no_pass refl
  none_added p (y ∷ ys) x none no_pass =
      let parts = or_parts (p y) (list_any p ys) none in
      rw parts.0 (none_added p ys x parts.1 no_pass)

  pub pair_added : (q : X → X → Bool) (xs : List X) (x : X) → each_pair q xs ≡ true → list_all (λ y. q y x) xs ≡ true → each_pair q (xs ++ x ∷ []) ≡ true
  pair_added q [] x pairs all = refl
  pair_added q (y ∷ ys) x pairs all =
      let parts = and_parts (list_all (q y) ys) (each_pair q ys) pairs in
      let others = and_parts (q y x) (list_all (λ z. q z x) ys) all in
      and_from (list_all (q y) (ys ++ x ∷ [])) (each_pair q (ys ++ x ∷ [])) (all_added (q y) ys x parts.0 others.0) (pair_added q ys x parts.1 others.1)

  -- some elements are taken out
  pub all_filtered : (p r : X → Bool) (xs : List X) → list_all p xs ≡ true → list_all p (filter r xs) ≡ true
  all_filtered p r [] all = refl
  all_filtered p r (x ∷ xs) all =
      let parts = and_parts (p x) (list_all p xs) all in
      let rest = all_filtered p r xs parts.1 in
      elim (cases_Bool (r x)) [ inl e ↦ rw e (and_from (p x) (list_all p (filter r xs)) parts.0 rest) | inr e ↦ rw e rest ]

  pub pair_filtered : (q : X → X → Bool) (r : X → Bool) (xs : List X) → each_pair q xs ≡ true → each_pair q (filter r xs) ≡ true
  pair_filtered q r [] pairs = refl
  pair_filtered q r (x ∷ xs) pairs =
      let parts = and_parts (list_all (q x) xs) (each_pair q xs) pairs in
      let rest = pair_filtered q r xs parts.1 in
      elim (cases_Bool (r x)) [
        | inl e ↦ rw e (and_from (list_all (q x) (filter r xs)) (each_pair q (filter r xs)) (all_filtered (q x) r xs parts.0) rest)
        | inr e ↦ rw e rest
      ]

  -- what passes isn't taken out
  pub any_filtered : (p r : X → Bool) → ((x : X) → p x ≡ true → r x ≡ true) → (xs : List X) → list_any p xs ≡ true → list_any p (filter r xs) ≡ true
  any_filtered p r f [] some = some
  any_filtered p r f (x ∷ xs) some =
      elim (or_cases (p x) (list_any p xs) some) [
        | inl e ↦ rw (f x e) (or_left (p x) (list_any p (filter r xs)) e)
        | inr e ↦
            let rest = any_filtered p r f xs e in
            elim (cases_Bool (r x)) [ inl k ↦ rw k (or_right (p x) (list_any p (filter r xs)) rest) | inr k ↦ rw k rest ]
      ]

  -- nothing that passes comes in
  pub none_filtered : (p r : X → Bool) (xs : List X) → list_any p xs ≡ false → list_any p (filter r xs) ≡ false
  none_filtered p r [] none = none
  none_filtered p r (x ∷ xs) none =
      let parts = or_parts (p x) (list_any p xs) none in
      let rest = none_filtered p r xs parts.1 in
      elim (cases_Bool (r x)) [ inl k ↦ rw (k, parts.0) rest | inr k ↦ rw k rest ]

  -- what is taken out is not there
  pub none_left : (p : X → Bool) (xs : List X) → list_any p (filter (λ x. not (p x)) xs) ≡ false
  none_left p [] = refl
  none_left p (x ∷ xs) = elim (cases_Bool (p x)) [ inl e ↦ rw e (none_left p xs) | inr e ↦ rw (e, e) (none_left p xs) ]

  pub length_filtered : (r : X → Bool) (xs : List X) → length (filter r xs) ≤ length xs
  length_filtered r [] = omega arith
  length_filtered r (x ∷ xs) = let rest = length_filtered r xs in elim (cases_Bool (r x)) [ inl e ↦ rw e (omega arith) | inr e ↦ rw e (omega arith) ]

  -- fewer are left where one is taken out
  pub length_fewer : (p : X → Bool) (xs : List X) → list_any p xs ≡ true → length (filter (λ x. not (p x)) xs) < length xs
  length_fewer p [] some = absurd (false≢true some)
  length_fewer p (x ∷ xs) some =
      elim (cases_Bool (p x)) [
        | inl e ↦ (let rest = length_filtered (λ y. not (p y)) xs in rw e (omega arith))
        | inr e ↦ (let also : list_any p xs ≡ true = rw e at some in let rest = length_fewer p xs also in rw e (omega arith))
      ]

  -- without the first
  pub all_rest : (p : X → Bool) (xs : List X) → list_all p xs ≡ true → list_all p (drop 1 xs) ≡ true
  all_rest p [] all = all
  all_rest p (x ∷ xs) all = (and_parts (p x) (list_all p xs) all).1

  pub pair_rest : (q : X → X → Bool) (xs : List X) → each_pair q xs ≡ true → each_pair q (drop 1 xs) ≡ true
  pair_rest q [] pairs = pairs
  pair_rest q (x ∷ xs) pairs = (and_parts (list_all (q x) xs) (each_pair q xs) pairs).1

  -- each element is changed, and the test sees nothing of it
  pub all_mapped : (p : X → Bool) (f : X → X) → ((x : X) → p (f x) ≡ p x) → (xs : List X) → list_all p (map f xs) ≡ list_all p xs
  all_mapped p f same [] = refl
  all_mapped p f same (x ∷ xs) = rw (same x, all_mapped p f same xs) refl

  pub any_mapped : (p : X → Bool) (f : X → X) → ((x : X) → p (f x) ≡ p x) → (xs : List X) → list_any p (map f xs) ≡ list_any p xs
  any_mapped p f same [] = refl
  any_mapped p f same (x ∷ xs) = rw (same x, any_mapped p f same xs) refl

  all_alike : (p r : X → Bool) (f : X → X) → ((x : X) → r (f x) ≡ p x) → (xs : List X) → list_all r (map f xs) ≡ list_all p xs
  all_alike p r f same [] = refl
  all_alike p r f same (x ∷ xs) = rw (same x, all_alike p r f same xs) refl

  pub pair_mapped : (q : X → X → Bool) (f : X → X) → ((x y : X) → q (f x) (f y) ≡ q x y) → (xs : List X) → each_pair q (map f xs) ≡ each_pair q xs
  pair_mapped q f same [] = refl
  pair_mapped q f same (x ∷ xs) = rw (all_alike (q x) (q (f x)) f (same x) xs, pair_mapped q f same xs) refl
