-- Where a test finds an element, and what is changed or removed there.
use Rattle.std.proofs.Common.{◌≡◌, ℕ, suc, ◌+◌, ◌<◌, Bool, true, false, List, [], ◌∷◌, length, get_or, refl, ap, cond, Some, None, arith, subst}
use Rattle.std.proofs.Math.ListN.{set}
use Rattle.std.specs.List.{position_from, find, remove}
use Rattle.dill_base.specs.Maps.{change, without}

-- what is at a place k
pub record Place {X : Type 0} (test : X → Bool) (f : X → X) (xs : List X) (k : ℕ) (d : X) : Type 0 where
  pub within : k < length xs
  pub found : find test xs ≡ Some (get_or xs k d)
  pub changed : change test f xs ≡ set xs k (f (get_or xs k d))
  pub left : without test xs ≡ remove xs k
  pub same : set xs k (get_or xs k d) ≡ xs

-- what is at the place that the test finds
pub Finds : {X : Type 0} (test : X → Bool) (f : X → X) (xs : List X) (j i : ℕ) (d : X) → Type 0
Finds test f xs j i d = (k : ℕ) × (i ≡ j + k) × Place test f xs k d

module _ {X : Type 0} (test : X → Bool) (f : X → X) (d : X) where
  place_cons : (x : X) (xs : List X) (j i : ℕ) (b : Bool) → test x ≡ b → cond b (Some j) (position_from test (j + 1) xs) ≡ Some i → (position_from test (j + 1) xs ≡ Some i → Finds test f xs (j + 1) i d) → Finds test f (x ∷ xs) j i d
  unfolding Finds
  place_cons x xs j i true e h rest =
      let same : j ≡ i = cc in
      (0, omega arith, record { within = omega arith; found = rw e refl; changed = rw e refl; left = rw e refl; same = refl })
  place_cons x xs j i false e h rest =
      let r : Finds test f xs (j + 1) i d = rest h in (
        suc r.0,
        omega (arith, r.1),
        record {
          within = omega (arith, r.2.within);
          found = rw e r.2.found;
          changed = rw e (ap (λ ys. x ∷ ys) r.2.changed);
          left = rw e (ap (λ ys. x ∷ ys) r.2.left);
          same = ap (λ ys. x ∷ ys) r.2.same;
        },
      )

  place_from : (xs : List X) (j i : ℕ) → position_from test j xs ≡ Some i → Finds test f xs j i d
  place_from [] j i h = cc
  place_from (x ∷ xs) j i h = place_cons x xs j i (test x) refl h (place_from xs (j + 1) i)

  pub place : (xs : List X) (i : ℕ) → position_from test 0 xs ≡ Some i → Place test f xs i d
  unfolding Finds
  place xs i h =
      let r : Finds test f xs 0 i d = place_from xs 0 i h in
      let e : r.0 ≡ i = omega (arith, r.1) in
      subst (λ k. Place test f xs k d) e r.2

-- what a test that finds nothing changes
pub record NoPlace {X : Type 0} (test : X → Bool) (f : X → X) (xs : List X) : Type 0 where
  pub none : find test xs ≡ None
  pub same : change test f xs ≡ xs
  pub whole : without test xs ≡ xs

module _ {X : Type 0} (test : X → Bool) (f : X → X) where
  no_cons : (x : X) (xs : List X) (j : ℕ) (b : Bool) → test x ≡ b → cond b (Some j) (position_from test (j + 1) xs) ≡ None → (position_from test (j + 1) xs ≡ None → NoPlace test f xs) → NoPlace test f (x ∷ xs)
  no_cons x xs j true e h rest = cc
  no_cons x xs j false e h rest =
      let r = rest h in
      record { none = rw e r.none; same = rw e (ap (λ ys. x ∷ ys) r.same); whole = rw e (ap (λ ys. x ∷ ys) r.whole) }

  pub no_place : (xs : List X) (j : ℕ) → position_from test j xs ≡ None → NoPlace test f xs
  no_place [] j h = record { none = refl; same = refl; whole = refl }
  no_place (x ∷ xs) j h = no_cons x xs j (test x) refl h (no_place xs (j + 1))
