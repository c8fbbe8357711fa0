-- Closings in their order, numbers in reverse, and what is picked from lists.
use Rattle.std.proofs.Common.{◌≡◌, ◌∙◌, ℕ, ◌+◌, ◌≤◌, List, [], ◌∷◌, ◌++◌, map, find, Bool, true, false, not, ◌&&◌, ◌||◌, cond, Some, refl, sym, ap, arith}
use Rattle.std.proofs.lemmas.Bool.{and_parts, and_from}
use Rattle.std.specs.Prelude.{filter, reverse, nat_lt}
use Rattle.std.specs.List.{list_all, list_any}
use Rattle.std.proofs.lemmas.List.{reverse-append}
use Rattle.std.proofs.lemmas.List.Folds.{list_all-append, list_any-append}
use Rattle.dill_rules.specs.declared.coroutine.Closing.{Closing}
use Rattle.dill_rules.specs.Settling.{placed, highest_first}
use Rattle.laws_queue.specs.Well.{bit}
use Rattle.laws_sound.specs.Orderly.{weigh}

module _ (f : Closing → ℕ) where
  placed_weight : (x : Closing) (xs : List Closing) → weigh f (placed x xs) ≡ f x + weigh f xs
  placed_weight x [] = refl
  placed_weight x (y ∷ ys) = at (nat_lt x.number y.number) (placed_weight x ys)
    where
      at : (b : Bool) → weigh f (placed x ys) ≡ f x + weigh f ys → weigh f (cond b (y ∷ placed x ys) (x ∷ y ∷ ys)) ≡ f x + (f y + weigh f ys)
      at true r = omega (arith, r)
      at false r = refl

  pub sorted_weight : (xs : List Closing) → weigh f (highest_first xs) ≡ weigh f xs
  sorted_weight [] = refl
  sorted_weight (x ∷ xs) = placed_weight x (highest_first xs) ∙ ap (λ k. f x + k) (sorted_weight xs)

module _ (test : Closing → Bool) where
  placed_all : (x : Closing) (xs : List Closing) → test x ≡ true → list_all test xs ≡ true → list_all test (placed x xs) ≡ true
  placed_all x [] e f = and_from (test x) true e refl
  placed_all x (y ∷ ys) e f =
      let b = and_parts (test y) (list_all test ys) f in
      at (nat_lt x.number y.number) b.0 b.1 (placed_all x ys e b.1)
    where
      at : (b : Bool) → test y ≡ true → list_all test ys ≡ true → list_all test (placed x ys) ≡ true → list_all test (cond b (y ∷ placed x ys) (x ∷ y ∷ ys)) ≡ true
      at true g h r = and_from (test y) (list_all test (placed x ys)) g r
      at false g h r = and_from (test x) (test y && list_all test ys) e (and_from (test y) (list_all test ys) g h)

  pub sorted_all : (xs : List Closing) → list_all test xs ≡ true → list_all test (highest_first xs) ≡ true
  sorted_all [] e = refl
  sorted_all (x ∷ xs) e = let b = and_parts (test x) (list_all test xs) e in placed_all x (highest_first xs) b.0 (sorted_all xs b.1)

reverse_cons : (n : ℕ) (ns : List ℕ) → reverse (n ∷ ns) ≡ reverse ns ++ n ∷ []
reverse_cons n ns = reverse-append (n ∷ []) ns

module _ (test : ℕ → Bool) where
  pub reverse_all : (ns : List ℕ) → list_all test ns ≡ true → list_all test (reverse ns) ≡ true
  reverse_all [] e = refl
  reverse_all (n ∷ ns) e =
      let b = and_parts (test n) (list_all test ns) e in
      ap (list_all test) (reverse_cons n ns) ∙ list_all-append test (reverse ns) (n ∷ []) ∙ and_from (list_all test (reverse ns)) (test n && true) (reverse_all ns b.1) (and_from (test n) true b.0 refl)

  pub reverse_any : (ns : List ℕ) → list_any test ns ≡ true → list_any test (reverse ns) ≡ true
  reverse_any [] e = cc
  reverse_any (n ∷ ns) e = ap (list_any test) (reverse_cons n ns) ∙ list_any-append test (reverse ns) (n ∷ []) ∙ at (test n) e (reverse_any ns)
    where
      at : (b : Bool) → (b || list_any test ns) ≡ true → (list_any test ns ≡ true → list_any test (reverse ns) ≡ true) → (list_any test (reverse ns) || (b || false)) ≡ true
      at true f rest = or_true (list_any test (reverse ns))
        where
          or_true : (c : Bool) → (c || true) ≡ true
          or_true true = refl
          or_true false = refl
      at false f rest = let r = rest f in ap (λ c. c || false) r

module _ {X : Type 0} (p : X → Bool) where
  -- what is picked weighs no more than all
  pub picked_less : (f : X → ℕ) (xs : List X) → weigh f (filter p xs) ≤ weigh f xs
  picked_less f [] = omega arith
  picked_less f (x ∷ xs) = at (p x) (picked_less f xs)
    where
      at : (b : Bool) → weigh f (filter p xs) ≤ weigh f xs → weigh f (cond b (x ∷ filter p xs) (filter p xs)) ≤ f x + weigh f xs
      at true r = omega (arith, r)
      at false r = omega (arith, r)

  -- and as much where all that count are picked
  pub picked_same : (test : X → Bool) (xs : List X) → ((x : X) → test x ≡ true → p x ≡ true) → weigh (λ x. bit (test x)) (filter p xs) ≡ weigh (λ x. bit (test x)) xs
  picked_same test [] h = refl
  picked_same test (x ∷ xs) h = at (p x) (test x) refl refl (picked_same test xs h)
    where
      at : (b t : Bool) → p x ≡ b → test x ≡ t → weigh (λ y. bit (test y)) (filter p xs) ≡ weigh (λ y. bit (test y)) xs → weigh (λ y. bit (test y)) (cond b (x ∷ filter p xs) (filter p xs)) ≡ bit t + weigh (λ y. bit (test y)) xs
      at true t e f r = let one : bit (test x) ≡ bit t = ap bit f in omega (arith, r, one)
      at false true e f r = let g = h x f in cc
      at false false e f r = omega (arith, r)

  pub picked_all : (test : X → Bool) (xs : List X) → list_all (λ x. not (p x) || test x) xs ≡ true → list_all test (filter p xs) ≡ true
  picked_all test [] e = refl
  picked_all test (x ∷ xs) e = let b = and_parts (not (p x) || test x) (list_all (λ y. not (p y) || test y) xs) e in at (p x) b.0 (picked_all test xs b.1)
    where
      at : (b : Bool) → (not b || test x) ≡ true → list_all test (filter p xs) ≡ true → list_all test (cond b (x ∷ filter p xs) (filter p xs)) ≡ true
      at true f r = and_from (test x) (list_all test (filter p xs)) f r
      at false f r = r

  module _ (key : X → ℕ) (test : ℕ → Bool) where
    pub keys_all : (xs : List X) → list_all (λ x. not (p x) || test (key x)) xs ≡ true → list_all test (map key (filter p xs)) ≡ true
    keys_all [] e = refl
    keys_all (x ∷ xs) e = let b = and_parts (not (p x) || test (key x)) (list_all (λ y. not (p y) || test (key y)) xs) e in at (p x) b.0 (keys_all xs b.1)
      where
        at : (b : Bool) → (not b || test (key x)) ≡ true → list_all test (map key (filter p xs)) ≡ true → list_all test (map key (cond b (x ∷ filter p xs) (filter p xs))) ≡ true
        at true f r = and_from (test (key x)) (list_all test (map key (filter p xs))) f r
        at false f r = r

    pub keys_any : (pick : X → Bool) (xs : List X) (y : X) → find pick xs ≡ Some y → p y ≡ true → test (key y) ≡ true → list_any test (map key (filter p xs)) ≡ true
    keys_any pick [] y e f g = cc
    keys_any pick (x ∷ xs) y e f g = at (pick x) (p x) refl e (keys_any pick xs y)
      where
        at : (t b : Bool) → p x ≡ b → cond t (Some x) (find pick xs) ≡ Some y → (find pick xs ≡ Some y → p y ≡ true → test (key y) ≡ true → list_any test (map key (filter p xs)) ≡ true) → list_any test (map key (cond b (x ∷ filter p xs) (filter p xs))) ≡ true
        at true true h i rest = let it : x ≡ y = cc in ap (λ c. c || list_any test (map key (filter p xs))) (ap (λ z. test (key z)) it ∙ g)
        at true false h i rest = let it : x ≡ y = cc in let n : p y ≡ false = ap p (sym it) ∙ h in cc
        at false true h i rest = more (test (key x)) (rest i f g)
          where
            more : (c : Bool) → list_any test (map key (filter p xs)) ≡ true → (c || list_any test (map key (filter p xs))) ≡ true
            more true r = refl
            more false r = r
        at false false h i rest = rest i f g
