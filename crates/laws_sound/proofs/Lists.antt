-- Tests that hold of all of a list, what is changed and found in it, and how often a number occurs.
use Rattle.std.proofs.Common.{◌≡◌, ◌∙◌, ℕ, ◌+◌, ◌≤◌, ◌==◌, List, [], ◌∷◌, ◌++◌, map, find, Bool, true, false, ◌&&◌, cond, Option, Some, refl, sym, ap, arith}
use Rattle.std.proofs.lemmas.Bool.{and_parts, and_from}
use Rattle.std.specs.List.{list_all}
use Rattle.dill_base.specs.Maps.{change, without}
use Rattle.laws_queue.specs.Well.{bit, occurs}

module _ {X : Type 0} (test : X → Bool) where
  pub all_append : (xs ys : List X) → list_all test xs ≡ true → list_all test ys ≡ true → list_all test (xs ++ ys) ≡ true
  all_append [] ys e f = f
  all_append (x ∷ xs) ys e f =
      let h = and_parts (test x) (list_all test xs) e in
      and_from (test x) (list_all test (xs ++ ys)) h.0 (all_append xs ys h.1 f)

  without_at : (found : Bool) (x : X) (xs ys : List X) → test x ≡ true → list_all test xs ≡ true → list_all test ys ≡ true → list_all test (cond found xs (x ∷ ys)) ≡ true
  without_at true x xs ys e f g = f
  without_at false x xs ys e f g = and_from (test x) (list_all test ys) e g

  pub all_without : (pick : X → Bool) (xs : List X) → list_all test xs ≡ true → list_all test (without pick xs) ≡ true
  all_without pick [] e = refl
  all_without pick (x ∷ xs) e =
      let h = and_parts (test x) (list_all test xs) e in
      without_at (pick x) x xs (without pick xs) h.0 h.1 (all_without pick xs h.1)

  change_at : (f : X → X) (found : Bool) (x : X) (xs ys : List X) → test (f x) ≡ true → test x ≡ true → list_all test xs ≡ true → list_all test ys ≡ true → list_all test (cond found (f x ∷ xs) (x ∷ ys)) ≡ true
  change_at f true x xs ys d e g h = and_from (test (f x)) (list_all test xs) d g
  change_at f false x xs ys d e g h = and_from (test x) (list_all test ys) e h

  pub all_change : (pick : X → Bool) (f : X → X) (xs : List X) → ((x : X) → test x ≡ true → test (f x) ≡ true) → list_all test xs ≡ true → list_all test (change pick f xs) ≡ true
  all_change pick f [] keeps e = refl
  all_change pick f (x ∷ xs) keeps e =
      let h = and_parts (test x) (list_all test xs) e in
      change_at f (pick x) x xs (change pick f xs) (keeps x h.0) h.0 h.1 (all_change pick f xs keeps h.1)

  pub all_map : (f : X → X) (xs : List X) → ((x : X) → test x ≡ true → test (f x) ≡ true) → list_all test xs ≡ true → list_all test (map f xs) ≡ true
  all_map f [] keeps e = refl
  all_map f (x ∷ xs) keeps e =
      let h = and_parts (test x) (list_all test xs) e in
      and_from (test (f x)) (list_all test (map f xs)) (keeps x h.0) (all_map f xs keeps h.1)

  found_at : (pick : X → Bool) (found : Bool) (x y : X) (rest : Option X) → cond found (Some x) rest ≡ Some y → test x ≡ true → (rest ≡ Some y → test y ≡ true) → test y ≡ true
  found_at pick true x y rest e f g = let it : x ≡ y = cc in ap test (sym it) ∙ f
  found_at pick false x y rest e f g = g e

  -- what is found is one of them
  pub all_found : (pick : X → Bool) (xs : List X) (y : X) → list_all test xs ≡ true → find pick xs ≡ Some y → test y ≡ true
  all_found pick [] y e f = cc
  all_found pick (x ∷ xs) y e f =
      let h = and_parts (test x) (list_all test xs) e in
      found_at pick (pick x) x y (find pick xs) f h.0 (all_found pick xs y h.1)

module _ {X : Type 0} where
  -- a test follows from another, of all of a list
  pub all_follow : (test more : X → Bool) (xs : List X) → ((x : X) → test x ≡ true → more x ≡ true) → list_all test xs ≡ true → list_all more xs ≡ true
  all_follow test more [] h e = refl
  all_follow test more (x ∷ xs) h e =
      let b = and_parts (test x) (list_all test xs) e in
      and_from (more x) (list_all more xs) (h x b.0) (all_follow test more xs h b.1)

  pub all_both : (test more : X → Bool) (xs : List X) → list_all test xs ≡ true → list_all more xs ≡ true → list_all (λ x. test x && more x) xs ≡ true
  all_both test more [] e f = refl
  all_both test more (x ∷ xs) e f =
      let b = and_parts (test x) (list_all test xs) e in
      let c = and_parts (more x) (list_all more xs) f in
      and_from (test x && more x) (list_all (λ y. test y && more y) xs) (and_from (test x) (more x) b.0 c.0) (all_both test more xs b.1 c.1)

  -- a test follows from two others
  pub all_from : (test more third : X → Bool) (xs : List X) → ((x : X) → test x ≡ true → more x ≡ true → third x ≡ true) → list_all test xs ≡ true → list_all more xs ≡ true → list_all third xs ≡ true
  all_from test more third [] h e f = refl
  all_from test more third (x ∷ xs) h e f =
      let b = and_parts (test x) (list_all test xs) e in
      let c = and_parts (more x) (list_all more xs) f in
      and_from (third x) (list_all third xs) (h x b.0 c.0) (all_from test more third xs h b.1 c.1)

module _ {X : Type 0} (key : X → ℕ) where
  occurs_found_at : (n : ℕ) (x y : X) (t : Bool) (rest : Option X) (k : ℕ) → cond t (Some x) rest ≡ Some y → (rest ≡ Some y → 1 ≤ k) → 1 ≤ bit t + k
  occurs_found_at n x y true rest k e h = omega arith
  occurs_found_at n x y false rest k e h = let r = h e in omega arith

  -- what is found occurs
  pub occurs_found : (n : ℕ) (xs : List X) (y : X) → find (λ x. key x == n) xs ≡ Some y → 1 ≤ occurs n (map key xs)
  occurs_found n [] y e = cc
  occurs_found n (x ∷ xs) y e = occurs_found_at n x y (key x == n) (find (λ z. key z == n) xs) (occurs n (map key xs)) e (occurs_found n xs y)
