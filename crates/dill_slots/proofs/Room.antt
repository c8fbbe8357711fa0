-- Numbers that are there once, each of them among others, are at most as many as the others.
use Rattle.std.proofs.Common.{◌≡◌, ℕ, zero, suc, ◌+◌, ◌*◌, ◌<◌, ◌≤◌, List, [], ◌∷◌, length, Bool, true, false, refl, ◌∙◌, sym, subst, arith, inl, inr}
use Rattle.std.specs.Prelude.{◌==◌, ◌&&◌, nat_lt, not, filter}
use Rattle.std.specs.List.{list_any, list_all}
use Rattle.std.proofs.lemmas.Bool.{and_parts, and_from, or_cases, or_right, not-true, not_from_false, ne_eqb, both_ways, eq-eqb, eqb-true, eqb-false, ltb-true, cases_Bool, false≢true}
use Rattle.dill_slots.specs.Pairs.{each_pair, differ}
use Rattle.dill_slots.proofs.Keeping.{all_both, all_weaker, any_filtered, length_fewer}

-- what has one number doesn't have another
other_number : (a b n : ℕ) → differ a b ≡ true → (n == b) ≡ true → not (n == a) ≡ true
other_number a b n two here =
    not_from_false (n == a) (ne_eqb n a (λ e. both_ways (a == b) (not-true (a == b) two) (eq-eqb a b (sym e ∙ eqb-true n b here))))

-- each element has its number from another list
pub no_more : {X Y : Type 0} (key : X → ℕ) (number : Y → ℕ) (xs : List X) (ys : List Y) → each_pair (λ a b. differ (key a) (key b)) xs ≡ true → list_all (λ a. list_any (λ y. number y == key a) ys) xs ≡ true → length xs ≤ length ys
no_more key number [] ys once among = omega arith
no_more {X} {Y} key number (x ∷ xs) ys once among =
    let parts = and_parts (list_all (λ b. differ (key x) (key b)) xs) (each_pair (λ a b. differ (key a) (key b)) xs) once in
    let found = and_parts (list_any (λ y. number y == key x) ys) (list_all (λ a. list_any (λ y. number y == key a) ys) xs) among in
    let left = filter (λ (y : Y). not (number y == key x)) ys in
    let others = all_both (λ b. differ (key x) (key b)) (λ a. list_any (λ y. number y == key a) ys) (λ a. list_any (λ y. number y == key a) left) (λ b two some. any_filtered (λ y. number y == key b) (λ y. not (number y == key x)) (λ y here. other_number (key x) (key b) (number y) two here) ys some) xs parts.0 found.1 in
    let rest = no_more key number xs left parts.1 others in
    let fewer = length_fewer (λ y. number y == key x) ys found.0 in
    omega arith

-- so many numbers from a number on, before a list
abbrev count_from : ℕ → ℕ → List ℕ → List ℕ
count_from start zero rest = rest
count_from start (suc n) rest = (start + n) ∷ count_from start n rest

length_counted : (start n : ℕ) (rest : List ℕ) → length (count_from start n rest) ≡ n + length rest
length_counted start zero rest = omega arith
length_counted start (suc n) rest = let more = length_counted start n rest in omega arith

less : (start n c : ℕ) → c < suc n → ((start + n == start + c) ≡ false) → c < n
less start n c below apart = omega (arith, below, eqb-false (start + n) (start + c) apart)

any_counted : (start n c : ℕ) (rest : List ℕ) → c < n → list_any (λ m. m == start + c) (count_from start n rest) ≡ true
any_counted start zero c rest below = absurd (omega arith)
any_counted start (suc n) c rest below =
    elim (cases_Bool (start + n == start + c)) [
      | inl e ↦ rw e refl
      | inr e ↦ rw e (any_counted start n c rest (less start n c below e))
    ]

any_behind : (p : ℕ → Bool) (start n : ℕ) (rest : List ℕ) → list_any p rest ≡ true → list_any p (count_from start n rest) ≡ true
any_behind p start zero rest some = some
any_behind p start (suc n) rest some = or_right (p (start + n)) (list_any p (count_from start n rest)) (any_behind p start n rest some)

module _ {Y : Type 0} (number : Y → ℕ) where
  -- the numbers of all clauses of a list
  abbrev clauses_of : List Y → List ℕ
  clauses_of [] = []
  clauses_of (y ∷ ys) = count_from (number y * 16) 16 (clauses_of ys)

  length_clauses : (ys : List Y) → length (clauses_of ys) ≡ length ys * 16
  length_clauses [] = refl
  length_clauses (y ∷ ys) = let rest = length_clauses ys in let more = length_counted (number y * 16) 16 (clauses_of ys) in omega arith

  any_clause : (s c : ℕ) (ys : List Y) → c < 16 → list_any (λ y. number y == s) ys ≡ true → list_any (λ m. m == s * 16 + c) (clauses_of ys) ≡ true
  any_clause s c [] below some = absurd (false≢true some)
  any_clause s c (y ∷ ys) below some =
      elim (or_cases (number y == s) (list_any (λ z. number z == s) ys) some) [
        | inl e ↦ subst (λ (n : ℕ). list_any (λ m. m == n * 16 + c) (clauses_of (y ∷ ys)) ≡ true) (eqb-true (number y) s e) (any_counted (number y * 16) 16 c (clauses_of ys) below)
        | inr e ↦ any_behind (λ m. m == s * 16 + c) (number y * 16) 16 (clauses_of ys) (any_clause s c ys below e)
      ]

-- two clauses have two numbers
clauses_apart : (a c b d : ℕ) → c < 16 → d < 16 → not ((a == b) && (c == d)) ≡ true → differ (a * 16 + c) (b * 16 + d) ≡ true
clauses_apart a c b d lc ld two =
    not_from_false (a * 16 + c == b * 16 + d) (ne_eqb (a * 16 + c) (b * 16 + d) (λ e. both_ways ((a == b) && (c == d)) (not-true ((a == b) && (c == d)) two) (and_from (a == b) (c == d) (eq-eqb a b (omega (arith, e, lc, ld))) (eq-eqb c d (omega (arith, e, lc, ld))))))

module _ {X : Type 0} where
  -- what follows of each two elements from what holds of each and of each two
  pair_from : (p : X → Bool) (q r : X → X → Bool) → ((x y : X) → p x ≡ true → p y ≡ true → q x y ≡ true → r x y ≡ true) → (xs : List X) → list_all p xs ≡ true → each_pair q xs ≡ true → each_pair r xs ≡ true
  pair_from p q r f [] all pairs = refl
  pair_from p q r f (x ∷ xs) all pairs =
      let parts = and_parts (p x) (list_all p xs) all in
      let two = and_parts (list_all (q x) xs) (each_pair q xs) pairs in
      and_from (list_all (r x) xs) (each_pair r xs) (all_both p (q x) (r x) (λ y py qy. f x y parts.0 py qy) xs parts.1 two.0) (pair_from p q r f xs parts.1 two.1)

-- clauses below 16 that are there once, each of an element of another list, are at most 16 times as many as that list has
pub no_more_clauses : {X Y : Type 0} (key clause : X → ℕ) (number : Y → ℕ) (xs : List X) (ys : List Y) → each_pair (λ a b. not ((key a == key b) && (clause a == clause b))) xs ≡ true → list_all (λ a. list_any (λ y. number y == key a) ys && nat_lt (clause a) 16) xs ≡ true → length xs ≤ length ys * 16
no_more_clauses {X} {Y} key clause number xs ys once among =
    let of_clause : X → ℕ = λ a. key a * 16 + clause a in
    let among_them : X → Bool = λ a. list_any (λ y. number y == key a) ys && nat_lt (clause a) 16 in
    let apart = pair_from among_them (λ a b. not ((key a == key b) && (clause a == clause b))) (λ a b. differ (of_clause a) (of_clause b)) (λ a b pa pb two. clauses_apart (key a) (clause a) (key b) (clause b) (ltb-true (clause a) 16 (and_parts (list_any (λ y. number y == key a) ys) (nat_lt (clause a) 16) pa).1) (ltb-true (clause b) 16 (and_parts (list_any (λ y. number y == key b) ys) (nat_lt (clause b) 16) pb).1) two) xs among once in
    let there = all_weaker among_them (λ a. list_any (λ m. m == of_clause a) (clauses_of number ys)) (λ a pa. let parts = and_parts (list_any (λ y. number y == key a) ys) (nat_lt (clause a) 16) pa in any_clause number (key a) (clause a) ys (ltb-true (clause a) 16 parts.1) parts.0) xs among in
    let few = no_more of_clause (λ m. m) xs (clauses_of number ys) apart there in
    omega (arith, few, length_clauses number ys)
