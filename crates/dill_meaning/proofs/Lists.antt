-- What stands ahead in a list, and how many of it pass a test.
use Rattle.std.proofs.Common.{◌≡◌, ◌≤◌, ◌+◌, ℕ, zero, suc, List, [], ◌∷◌, drop, slice_get, Some, count_by, Bool, true, false, refl, arith, cond, ◌&&◌}
use Rattle.std.proofs.lemmas.Bool.{and_parts}
use Rattle.std.proofs.Math.Nat.{le_trans}
use Rattle.std.proofs.lemmas.List.Sums.{sum_by-cons}
use Rattle.std.specs.List.{list_all}

-- one step further
pub drop_next : {X : Type 0} (n : ℕ) (xs : List X) (x : X) (ys : List X) → drop n xs ≡ x ∷ ys → drop (suc n) xs ≡ ys
drop_next zero [] x ys e = cc
drop_next zero (z ∷ zs) x ys e = cc
drop_next (suc n) [] x ys e = cc
drop_next (suc n) (z ∷ zs) x ys e = drop_next n zs x ys e

-- the first that is ahead
pub get_ahead : {X : Type 0} (n : ℕ) (xs : List X) (x : X) (ys : List X) → drop n xs ≡ x ∷ ys → slice_get xs n ≡ Some x
get_ahead zero [] x ys e = cc
get_ahead zero (z ∷ zs) x ys e = cc
get_ahead (suc n) [] x ys e = cc
get_ahead (suc n) (z ∷ zs) x ys e = get_ahead n zs x ys e

-- one more or as many
pub count_cons : {X : Type 0} (p : X → Bool) (x : X) (xs : List X) → count_by p (x ∷ xs) ≡ cond (p x) 1 0 + count_by p xs
count_cons p x xs = sum_by-cons (λ y. cond (p y) 1 0) x xs

count_one_of : (b : Bool) (n m : ℕ) → m ≡ cond b 1 0 + n → b ≡ true → m ≡ suc n
count_one_of true n m e t = omega arith
count_one_of false n m e t = cc

-- one that passes makes one more
pub count_one : {X : Type 0} (p : X → Bool) (x : X) (xs : List X) → p x ≡ true → count_by p (x ∷ xs) ≡ suc (count_by p xs)
count_one p x xs e = count_one_of (p x) (count_by p xs) (count_by p (x ∷ xs)) (count_cons p x xs) e

pub count_more : {X : Type 0} (p : X → Bool) (x : X) (xs : List X) → count_by p xs ≤ count_by p (x ∷ xs)
count_more p x xs =
    let e : count_by p (x ∷ xs) ≡ cond (p x) 1 0 + count_by p xs = count_cons p x xs in
    omega arith

-- no more are ahead than there are
pub count_ahead : {X : Type 0} (p : X → Bool) (n : ℕ) (xs : List X) → count_by p (drop n xs) ≤ count_by p xs
count_ahead p zero xs = omega arith
count_ahead p (suc n) [] = omega arith
count_ahead p (suc n) (x ∷ xs) = le_trans (count_ahead p n xs) (count_more p x xs)

-- what all pass, one of them passes
pub all_at : {X : Type 0} (p : X → Bool) (xs : List X) (n : ℕ) (x : X) → list_all p xs ≡ true → slice_get xs n ≡ Some x → p x ≡ true
all_at p [] n x a e = cc
all_at p (y ∷ ys) zero x a e = let h : p y ≡ true = (and_parts (p y) (list_all p ys) a).0 in cc
all_at p (y ∷ ys) (suc n) x a e = all_at p ys n x (and_parts (p y) (list_all p ys) a).1 e
