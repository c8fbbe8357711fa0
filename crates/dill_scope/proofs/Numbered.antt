-- Lists of records in rising number: what is found after one is added, changed or taken away.
use Rattle.std.proofs.Common.{◌≡◌, ℕ, zero, suc, ◌+◌, ◌<◌, ◌==◌, Bool, true, false, List, [], ◌∷◌, ◌++◌, get_or, map, refl, sym, ◌∙◌, cond, Option, Some, None, arith, eq-eqb}
use Rattle.std.specs.Prelude.{All, Contains, find, option_map}
use Rattle.std.specs.Option.{option_or}
use Rattle.std.specs.List.Sorted.{IsStrictlyIncreasing}
use Rattle.std.proofs.lemmas.Bool.Decides.{Decides-eqb}
use Rattle.std.proofs.lemmas.List.Elements.{All-head, All-tail}
use Rattle.std.proofs.lemmas.List.Folds.{find-append}
use Rattle.dill_base.specs.Maps.{change, without}
use Rattle.dill_scope.proofs.Climbing.{differ}

increasing_tail : (x : ℕ) (xs : List ℕ) → IsStrictlyIncreasing (x ∷ xs) → IsStrictlyIncreasing xs
increasing_tail x xs i k h =
    let r : get_or (x ∷ xs) (suc k) 0 < get_or (x ∷ xs) (suc k + 1) 0 = i (suc k) (omega (arith, h)) in
    let e : suc k + 1 ≡ suc (k + 1) = omega arith in
    rw e at r

module _ {X : Type 0} (key : X → ℕ) where
  abbrev pub is_at : ℕ → X → Bool
  is_at n x = key x == n

  -- its number is found at its number alone
  pub at_itself : (n : ℕ) (x : X) → key x ≡ n → is_at n x ≡ true
  at_itself n x e = rw e (eq-eqb n n refl)

  number_cons : (n : ℕ) (y x : X) (ys : List X) (b : Bool) → is_at n y ≡ b → cond b (Some y) (find (is_at n) ys) ≡ Some x → (find (is_at n) ys ≡ Some x → key x ≡ n) → key x ≡ n
  number_cons n y x ys true t h rest = let same : y ≡ x = cc in rw (← same) ((Decides-eqb (key y) n).0 t)
  number_cons n y x ys false t h rest = rest h

  -- what is found at a number has it
  pub found_number : (n : ℕ) (xs : List X) (x : X) → find (is_at n) xs ≡ Some x → key x ≡ n
  found_number n [] x e = cc
  found_number n (y ∷ ys) x e = number_cons n y x ys (is_at n y) refl e (found_number n ys x)

  found_cons : (n : ℕ) (y x : X) (ys : List X) (b : Bool) → is_at n y ≡ b → cond b (Some y) (find (is_at n) ys) ≡ Some x → (find (is_at n) ys ≡ Some x → Contains ys x) → Contains (y ∷ ys) x
  found_cons n y x ys true t h rest = let same : y ≡ x = cc in (0, omega arith, same)
  found_cons n y x ys false t h rest = let r = rest h in (suc r.0, omega (arith, r.1), r.2)

  -- what is found is in the list
  pub found_in : (n : ℕ) (xs : List X) (x : X) → find (is_at n) xs ≡ Some x → Contains xs x
  found_in n [] x e = cc
  found_in n (y ∷ ys) x e = found_cons n y x ys (is_at n y) refl e (found_in n ys x)

  -- ---- an element at the end

  pub find_push_other : (n : ℕ) (xs : List X) (y : X) → (key y ≡ n → ⊥) → find (is_at n) (xs ++ y ∷ []) ≡ find (is_at n) xs
  find_push_other n xs y ne = find-append (is_at n) xs (y ∷ []) ∙ rw (differ (key y) n ne) (none (find (is_at n) xs)) where
    none : (o : Option X) → option_or o None ≡ o
    none None = refl
    none (Some x) = refl

  pub find_push_new : (n : ℕ) (xs : List X) (y : X) → find (is_at n) xs ≡ None → key y ≡ n → find (is_at n) (xs ++ y ∷ []) ≡ Some y
  find_push_new n xs y none e = find-append (is_at n) xs (y ∷ []) ∙ rw (none, at_itself n y e) refl

  pub find_push_kept : (n : ℕ) (xs : List X) (y x : X) → find (is_at n) xs ≡ Some x → find (is_at n) (xs ++ y ∷ []) ≡ Some x
  find_push_kept n xs y x e = find-append (is_at n) xs (y ∷ []) ∙ rw e refl

  pub none_below : (n : ℕ) (xs : List X) → All (λ x. key x < n) xs → find (is_at n) xs ≡ None
  none_below n [] all = refl
  none_below n (x ∷ xs) all =
      let here : key x < n = All-head (λ y. key y < n) x xs all in
      rw (differ (key x) n (λ e. absurd (omega (arith, e, here)))) (none_below n xs (All-tail (λ y. key y < n) x xs all))

  -- ---- without the first of a number

  kept_cons : (m n : ℕ) (x : X) (xs : List X) (a b : Bool) → is_at m x ≡ a → is_at n x ≡ b → (m ≡ n → ⊥) → find (is_at m) (without (is_at n) xs) ≡ find (is_at m) xs → find (is_at m) (cond b xs (x ∷ without (is_at n) xs)) ≡ cond a (Some x) (find (is_at m) xs)
  kept_cons m n x xs true true at it ne rest = absurd (ne (sym ((Decides-eqb (key x) m).0 at) ∙ (Decides-eqb (key x) n).0 it))
  kept_cons m n x xs false true at it ne rest = refl
  kept_cons m n x xs true false at it ne rest = rw at refl
  kept_cons m n x xs false false at it ne rest = rw at rest

  pub find_without_other : (m n : ℕ) (xs : List X) → (m ≡ n → ⊥) → find (is_at m) (without (is_at n) xs) ≡ find (is_at m) xs
  find_without_other m n [] ne = refl
  find_without_other m n (x ∷ xs) ne = kept_cons m n x xs (is_at m x) (is_at n x) refl refl ne (find_without_other m n xs ne)

  -- ---- the first of a number is changed

  module _ (f : X → X) (same : (x : X) → key (f x) ≡ key x) where
    other_cons : (m n : ℕ) (x : X) (xs : List X) (a b : Bool) → is_at m x ≡ a → is_at n x ≡ b → (m ≡ n → ⊥) → find (is_at m) (change (is_at n) f xs) ≡ find (is_at m) xs → find (is_at m) (cond b (f x ∷ xs) (x ∷ change (is_at n) f xs)) ≡ cond a (Some x) (find (is_at m) xs)
    other_cons m n x xs true true at it ne rest = absurd (ne (sym ((Decides-eqb (key x) m).0 at) ∙ (Decides-eqb (key x) n).0 it))
    other_cons m n x xs false true at it ne rest = rw (same x, at) refl
    other_cons m n x xs true false at it ne rest = rw at refl
    other_cons m n x xs false false at it ne rest = rw at rest

    pub find_change_other : (m n : ℕ) (xs : List X) → (m ≡ n → ⊥) → find (is_at m) (change (is_at n) f xs) ≡ find (is_at m) xs
    find_change_other m n [] ne = refl
    find_change_other m n (x ∷ xs) ne = other_cons m n x xs (is_at m x) (is_at n x) refl refl ne (find_change_other m n xs ne)

    here_cons : (n : ℕ) (x : X) (xs : List X) (b : Bool) → is_at n x ≡ b → find (is_at n) (change (is_at n) f xs) ≡ option_map f (find (is_at n) xs) → find (is_at n) (cond b (f x ∷ xs) (x ∷ change (is_at n) f xs)) ≡ option_map f (cond b (Some x) (find (is_at n) xs))
    here_cons n x xs true t rest = rw (same x, t) refl
    here_cons n x xs false t rest = rw t rest

    pub find_change_here : (n : ℕ) (xs : List X) → find (is_at n) (change (is_at n) f xs) ≡ option_map f (find (is_at n) xs)
    find_change_here n [] = refl
    find_change_here n (x ∷ xs) = here_cons n x xs (is_at n x) refl (find_change_here n xs)

    numbers_cons : (n : ℕ) (x : X) (xs : List X) (b : Bool) → map key (change (is_at n) f xs) ≡ map key xs → map key (cond b (f x ∷ xs) (x ∷ change (is_at n) f xs)) ≡ key x ∷ map key xs
    numbers_cons n x xs true rest = rw (same x) refl
    numbers_cons n x xs false rest = rw rest refl

    pub change_numbers : (n : ℕ) (xs : List X) → map key (change (is_at n) f xs) ≡ map key xs
    change_numbers n [] = refl
    change_numbers n (x ∷ xs) = numbers_cons n x xs (is_at n x) (change_numbers n xs)

  -- ---- rising numbers, by recursion

  Above : ℕ → List X → Type 0
  Above n [] = Unit {0}
  Above n (x ∷ xs) = (n < key x) × Above n xs

  Rises : List X → Type 0
  Rises [] = Unit {0}
  Rises (x ∷ xs) = Above (key x) xs × Rises xs

  above : (n : ℕ) (x : X) (xs : List X) → n < key x → IsStrictlyIncreasing (map key (x ∷ xs)) → Above n (x ∷ xs)
  unfolding Above
  above n x [] l i = (l, tt)
  above n x (y ∷ ys) l i =
      let next : key x < key y = i 0 (omega arith) in
      (l, above n y ys (omega arith) (increasing_tail (key x) (key y ∷ map key ys) i))

  rises : (xs : List X) → IsStrictlyIncreasing (map key xs) → Rises xs
  unfolding Above Rises
  rises [] i = tt
  rises (x ∷ []) i = (tt, tt)
  rises (x ∷ y ∷ ys) i =
      let next : key x < key y = i 0 (omega arith) in
      let rest = increasing_tail (key x) (key y ∷ map key ys) i in
      (above (key x) y ys next rest, rises (y ∷ ys) rest)

  increases : (xs : List X) → Rises xs → IsStrictlyIncreasing (map key xs)
  unfolding Above Rises
  increases [] r k h = absurd (omega arith)
  increases (x ∷ []) r k h = absurd (omega arith)
  increases (x ∷ y ∷ ys) r zero h = r.0.0
  increases (x ∷ y ∷ ys) r (suc k) h =
      let e : suc k + 1 ≡ suc (k + 1) = omega arith in
      let rest : get_or (map key (y ∷ ys)) k 0 < get_or (map key (y ∷ ys)) (k + 1) 0 = increases (y ∷ ys) r.1 k (omega (arith, h)) in
      rw e rest

  -- ---- what that gives

  none_above : (n : ℕ) (xs : List X) → Above n xs → find (is_at n) xs ≡ None
  unfolding Above
  none_above n [] a = refl
  none_above n (x ∷ xs) a = rw (differ (key x) n (λ e. absurd (omega (arith, e, a.0)))) (none_above n xs a.1)

  gone_cons : (n : ℕ) (x : X) (xs : List X) (b : Bool) → is_at n x ≡ b → Above (key x) xs → find (is_at n) (without (is_at n) xs) ≡ None → find (is_at n) (cond b xs (x ∷ without (is_at n) xs)) ≡ None
  gone_cons n x xs true t a rest = let e : key x ≡ n = (Decides-eqb (key x) n).0 t in none_above n xs (rw e at a)
  gone_cons n x xs false t a rest = rw t rest

  gone : (n : ℕ) (xs : List X) → Rises xs → find (is_at n) (without (is_at n) xs) ≡ None
  unfolding Rises
  gone n [] r = refl
  gone n (x ∷ xs) r = gone_cons n x xs (is_at n x) refl r.0 (gone n xs r.1)

  -- what is taken away isn't found again
  pub find_without_same : (n : ℕ) (xs : List X) → IsStrictlyIncreasing (map key xs) → find (is_at n) (without (is_at n) xs) ≡ None
  find_without_same n xs i = gone n xs (rises xs i)

  above_push : (n : ℕ) (xs : List X) (y : X) → n < key y → Above n xs → Above n (xs ++ y ∷ [])
  unfolding Above
  above_push n [] y l a = (l, tt)
  above_push n (x ∷ xs) y l a = (a.0, above_push n xs y l a.1)

  rises_push : (xs : List X) (y : X) → All (λ x. key x < key y) xs → Rises xs → Rises (xs ++ y ∷ [])
  unfolding Above Rises
  rises_push [] y all r = (tt, tt)
  rises_push (x ∷ xs) y all r =
      (above_push (key x) xs y (All-head (λ z. key z < key y) x xs all) r.0, rises_push xs y (All-tail (λ z. key z < key y) x xs all) r.1)

  -- a greater number at the end keeps the order
  pub push_increases : (xs : List X) (y : X) → All (λ x. key x < key y) xs → IsStrictlyIncreasing (map key xs) → IsStrictlyIncreasing (map key (xs ++ y ∷ []))
  push_increases xs y all i = increases (xs ++ y ∷ []) (rises_push xs y all (rises xs i))

  above_cons : (n m : ℕ) (x : X) (xs : List X) (b : Bool) → n < key x → Above n xs → Above n (without (is_at m) xs) → Above n (cond b xs (x ∷ without (is_at m) xs))
  unfolding Above
  above_cons n m x xs true l a rest = a
  above_cons n m x xs false l a rest = (l, rest)

  above_without : (n m : ℕ) (xs : List X) → Above n xs → Above n (without (is_at m) xs)
  unfolding Above
  above_without n m [] a = tt
  above_without n m (x ∷ xs) a = above_cons n m x xs (is_at m x) a.0 a.1 (above_without n m xs a.1)

  rises_cons : (m : ℕ) (x : X) (xs : List X) (b : Bool) → Above (key x) xs → Rises xs → Rises (without (is_at m) xs) → Rises (cond b xs (x ∷ without (is_at m) xs))
  unfolding Rises
  rises_cons m x xs true a r rest = r
  rises_cons m x xs false a r rest = (above_without (key x) m xs a, rest)

  rises_without : (m : ℕ) (xs : List X) → Rises xs → Rises (without (is_at m) xs)
  unfolding Rises
  rises_without m [] r = tt
  rises_without m (x ∷ xs) r = rises_cons m x xs (is_at m x) r.0 r.1 (rises_without m xs r.1)

  -- what is left without one keeps the order
  pub without_increases : (m : ℕ) (xs : List X) → IsStrictlyIncreasing (map key xs) → IsStrictlyIncreasing (map key (without (is_at m) xs))
  without_increases m xs i = increases (without (is_at m) xs) (rises_without m xs (rises xs i))
