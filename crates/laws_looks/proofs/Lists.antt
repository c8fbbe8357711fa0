-- Numbers, tests and members of lists, as the laws of looks use them.
use Rattle.std.proofs.Common.{◌≡◌, ◌∙◌, ◌⊎◌, inl, inr, ℕ, ◌==◌, ◌<◌, List, [], ◌∷◌, ◌++◌, find, cond, Bool, true, false, not, ◌&&◌, Option, Some, None, refl, sym, ap, subst, arith}
use Rattle.std.specs.Prelude.{map, filter, filter_map}
use Rattle.std.specs.Option.{option_or}
use Rattle.std.specs.List.{list_any}
use Rattle.std.proofs.lemmas.Bool.{or_parts}
use Rattle.std.proofs.lemmas.Bool.Decides.{nat_tests}
use Rattle.dill_base.specs.Maps.{if_some, change, without, first_some}
use Rattle.laws_looks.specs.Readers.{In}

pub itself : (n : ℕ) → (n == n) ≡ true
itself n = grind (arith, nat_tests)

pub equal_is : (m n : ℕ) → (m == n) ≡ true → m ≡ n
equal_is m n e = grind (arith, nat_tests)

pub unequal_is : (m n : ℕ) → (m == n) ≡ false → m ≡ n → ⊥
unequal_is m n e f = grind (arith, nat_tests)

pub less_unequal : (m n : ℕ) → m < n → (m == n) ≡ false
less_unequal m n h = grind (arith, nat_tests)

pub more_unequal : (m n : ℕ) → n < m → (m == n) ≡ false
more_unequal m n h = grind (arith, nat_tests)

pub some_none : {A : Type 0} (o : Option A) (a : A) → o ≡ None → o ≡ Some a → ⊥
some_none None a e f = cc
some_none (Some b) a e f = cc

pub some_same : {A : Type 0} (o : Option A) (a b : A) → o ≡ Some a → o ≡ Some b → a ≡ b
some_same None a b e f = cc
some_same (Some c) a b e f = cc

pub or_none : {X : Type 0} (a b : Option X) → option_or a b ≡ None → (a ≡ None) × (b ≡ None)
or_none None b e = (refl, e)
or_none (Some x) b e = cc

pub none_or : {X : Type 0} (a b : Option X) → a ≡ None → b ≡ None → option_or a b ≡ None
none_or a b e f = ap (λ o. option_or o b) e ∙ f

pub true_false : (b : Bool) → b ≡ true → b ≡ false → ⊥
true_false true e f = cc
true_false false e f = cc

pub reads_parts : (a b : Bool) → (a && not b) ≡ true → (a ≡ true) × (b ≡ false)
reads_parts true false e = (refl, refl)
reads_parts true true e = cc
reads_parts false b e = cc

pub both_true : (a b : Bool) → a ≡ true → b ≡ true → (a && b) ≡ true
both_true true b e f = f
both_true false b e f = cc

-- ---- members

pub first_none : {X Y : Type 0} (f : X → Option Y) (xs : List X) → first_some f xs ≡ None → (x : X) → In x xs → f x ≡ None
first_none f [] e x i = absurd i
first_none f (y ∷ ys) e x (inl same) = ap f same ∙ (or_none (f y) (first_some f ys) e).0
first_none f (y ∷ ys) e x (inr i) = first_none f ys (or_none (f y) (first_some f ys) e).1 x i

pub none_first : {X Y : Type 0} (f : X → Option Y) (xs : List X) → ((x : X) → In x xs → f x ≡ None) → first_some f xs ≡ None
none_first f [] h = refl
none_first f (y ∷ ys) h = none_or (f y) (first_some f ys) (h y (inl refl)) (none_first f ys (λ x i. h x (inr i)))

pub in_without : {X : Type 0} (test : X → Bool) (xs : List X) (x : X) → In x (without test xs) → In x xs
in_without test [] x i = i
in_without test (y ∷ ys) x i = at (test y) i (in_without test ys x)
  where
    at : (b : Bool) → In x (cond b ys (y ∷ without test ys)) → (In x (without test ys) → In x ys) → (x ≡ y) ⊎ In x ys
    at true j rest = inr j
    at false (inl same) rest = inl same
    at false (inr j) rest = inr (rest j)

-- what a change leaves: the others, or what it makes of one that passes
pub in_change : {X : Type 0} (test : X → Bool) (f : X → X) (xs : List X) (x : X) → In x (change test f xs) → In x xs ⊎ ((y : X) × (test y ≡ true) × (x ≡ f y))
in_change test f [] x i = inl i
in_change test f (y ∷ ys) x i = at (test y) refl i (in_change test f ys x)
  where
    more : In x ys ⊎ ((z : _) × (test z ≡ true) × (x ≡ f z)) → ((x ≡ y) ⊎ In x ys) ⊎ ((z : _) × (test z ≡ true) × (x ≡ f z))
    more (inl k) = inl (inr k)
    more (inr k) = inr k

    at : (b : Bool) → test y ≡ b → In x (cond b (f y ∷ ys) (y ∷ change test f ys)) → (In x (change test f ys) → In x ys ⊎ ((z : _) × (test z ≡ true) × (x ≡ f z))) → ((x ≡ y) ⊎ In x ys) ⊎ ((z : _) × (test z ≡ true) × (x ≡ f z))
    at true e (inl same) rest = inr (y, e, same)
    at true e (inr j) rest = inl (inr j)
    at false e (inl same) rest = inl (inl same)
    at false e (inr j) rest = more (rest j)

pub in_push : {X : Type 0} (xs : List X) (y x : X) → In x (xs ++ y ∷ []) → In x xs ⊎ (x ≡ y)
in_push [] y x (inl same) = inr same
in_push [] y x (inr i) = absurd i
in_push (z ∷ zs) y x (inl same) = inl (inl same)
in_push (z ∷ zs) y x (inr i) = at (in_push zs y x i)
  where
    at : In x zs ⊎ (x ≡ y) → ((x ≡ z) ⊎ In x zs) ⊎ (x ≡ y)
    at (inl j) = inl (inr j)
    at (inr same) = inr same

pub in_map : {X Y : Type 0} (f : X → Y) (xs : List X) (x : Y) → In x (map f xs) → (y : X) × In y xs × (x ≡ f y)
in_map f [] x i = absurd i
in_map f (y ∷ ys) x (inl same) = (y, inl refl, same)
in_map f (y ∷ ys) x (inr i) = let r = in_map f ys x i in (r.0, inr r.1, r.2)

pub find_in : {X : Type 0} (test : X → Bool) (xs : List X) (x : X) → find test xs ≡ Some x → In x xs
find_in test [] x e = cc
find_in test (y ∷ ys) x e = at (test y) e (find_in test ys x)
  where
    at : (b : Bool) → cond b (Some y) (find test ys) ≡ Some x → (find test ys ≡ Some x → In x ys) → (x ≡ y) ⊎ In x ys
    at true f rest = let it : y ≡ x = cc in inl (sym it)
    at false f rest = inr (rest f)

pub first_in : {X Y : Type 0} (f : X → Option Y) (xs : List X) (y : Y) → first_some f xs ≡ Some y → (x : X) × In x xs × (f x ≡ Some y)
first_in f [] y e = cc
first_in f (x ∷ xs) y e = at (f x) refl e (first_in f xs y)
  where
    at : (o : Option _) → f x ≡ o → option_or o (first_some f xs) ≡ Some y → (first_some f xs ≡ Some y → (z : _) × In z xs × (f z ≡ Some y)) → (z : _) × ((z ≡ x) ⊎ In z xs) × (f z ≡ Some y)
    at None g h rest = let r = rest h in (r.0, inr r.1, r.2)
    at (Some z) g h rest = (x, inl refl, g ∙ h)

pub none_passes : {X : Type 0} (f : X → Bool) (xs : List X) → list_any f xs ≡ false → (x : X) → In x xs → f x ≡ false
none_passes f [] e x i = absurd i
none_passes f (y ∷ ys) e x (inl same) = ap f same ∙ (or_parts (f y) (list_any f ys) e).0
none_passes f (y ∷ ys) e x (inr i) = none_passes f ys (or_parts (f y) (list_any f ys) e).1 x i

pub find_none : {X : Type 0} (f : X → Bool) (xs : List X) → find f xs ≡ None → (x : X) → In x xs → f x ≡ false
find_none f [] e x i = absurd i
find_none f (y ∷ ys) e x i = at (f y) refl e i (find_none f ys)
  where
    at : (b : Bool) → f y ≡ b → cond b (Some y) (find f ys) ≡ None → (x ≡ y) ⊎ In x ys → (find f ys ≡ None → (z : _) → In z ys → f z ≡ false) → f x ≡ false
    at true g h j rest = cc
    at false g h (inl same) rest = ap f same ∙ g
    at false g h (inr j) rest = rest h x j

pub in_append : {X : Type 0} (xs ys : List X) (x : X) → In x (xs ++ ys) → In x xs ⊎ In x ys
in_append [] ys x i = inr i
in_append (z ∷ zs) ys x (inl same) = inl (inl same)
in_append (z ∷ zs) ys x (inr i) = at (in_append zs ys x i)
  where
    at : In x zs ⊎ In x ys → ((x ≡ z) ⊎ In x zs) ⊎ In x ys
    at (inl j) = inl (inr j)
    at (inr j) = inr j

pub in_filter : {X : Type 0} (test : X → Bool) (xs : List X) (x : X) → In x (filter test xs) → In x xs × (test x ≡ true)
in_filter test [] x i = absurd i
in_filter test (y ∷ ys) x i = at (test y) refl i (in_filter test ys x)
  where
    at : (b : Bool) → test y ≡ b → In x (cond b (y ∷ filter test ys) (filter test ys)) → (In x (filter test ys) → In x ys × (test x ≡ true)) → ((x ≡ y) ⊎ In x ys) × (test x ≡ true)
    at true e (inl same) rest = (inl same, ap test same ∙ e)
    at true e (inr j) rest = let r = rest j in (inr r.0, r.1)
    at false e j rest = let r = rest j in (inr r.0, r.1)

picked : {X Y : Type 0} (f : X → Option Y) (x : X) (xs : List X) → filter_map f (x ∷ xs) ≡ if_some (f x) (filter_map f xs) (λ y. y ∷ filter_map f xs)
picked f x xs = at (f x) refl
  where
    at : (o : Option _) → f x ≡ o → filter_map f (x ∷ xs) ≡ if_some o (filter_map f xs) (λ y. y ∷ filter_map f xs)
    at None e = rw e refl
    at (Some y) e = rw e refl

pub in_picked : {X Y : Type 0} (f : X → Option Y) (xs : List X) (y : Y) → In y (filter_map f xs) → (x : X) × In x xs × (f x ≡ Some y)
in_picked f [] y i = absurd i
in_picked f (x ∷ xs) y i = at (f x) refl (subst (In y) (picked f x xs) i) (in_picked f xs y)
  where
    at : (o : Option _) → f x ≡ o → In y (if_some o (filter_map f xs) (λ z. z ∷ filter_map f xs)) → (In y (filter_map f xs) → (z : _) × In z xs × (f z ≡ Some y)) → (z : _) × ((z ≡ x) ⊎ In z xs) × (f z ≡ Some y)
    at None e j rest = let r = rest j in (r.0, inr r.1, r.2)
    at (Some z) e (inl same) rest = (x, inl refl, e ∙ ap Some (sym same))
    at (Some z) e (inr j) rest = let r = rest j in (r.0, inr r.1, r.2)

pub find_passes : {X : Type 0} (test : X → Bool) (xs : List X) (x : X) → find test xs ≡ Some x → test x ≡ true
find_passes test [] x e = cc
find_passes test (y ∷ ys) x e = at (test y) refl e (find_passes test ys x)
  where
    at : (b : Bool) → test y ≡ b → cond b (Some y) (find test ys) ≡ Some x → (find test ys ≡ Some x → test x ≡ true) → test x ≡ true
    at true f g rest = let it : y ≡ x = cc in ap test (sym it) ∙ f
    at false f g rest = rest g
