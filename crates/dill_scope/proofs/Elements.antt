-- The elements of a list whose first of a test is changed.
use Rattle.std.proofs.Common.{◌≡◌, zero, suc, ◌⊎◌, inl, inr, Bool, true, false, List, [], ◌∷◌, refl, sym, cond, arith}
use Rattle.std.specs.Prelude.{Contains}
use Rattle.dill_base.specs.Maps.{change}

module _ {X : Type 0} where
  pub contains_none : (y : X) → Contains [] y → ⊥
  contains_none y (k, short, at) = absurd (omega arith)

  pub contains_cons : (x : X) (xs : List X) (y : X) → Contains (x ∷ xs) y → (x ≡ y) ⊎ Contains xs y
  contains_cons x xs y (zero, short, at) = inl at
  contains_cons x xs y (suc k, short, at) = inr (k, omega arith, at)

  pub contains_here : (x : X) (xs : List X) → Contains (x ∷ xs) x
  contains_here x xs = (0, omega arith, refl)

  pub contains_there : (x : X) (xs : List X) (y : X) → Contains xs y → Contains (x ∷ xs) y
  contains_there x xs y (k, short, at) = (suc k, omega arith, at)

  module _ (test : X → Bool) (f : X → X) where
    -- where an element of the changed list comes from
    pub record Source (xs : List X) (y : X) : Type 0 where
      pub element : X
      pub there : Contains xs element
      pub same : (y ≡ element) ⊎ ((y ≡ f element) × (test element ≡ true))

    source_there : (x : X) (xs : List X) (y : X) → Source xs y → Source (x ∷ xs) y
    source_there x xs y r = record { element = r.element; there = contains_there x xs r.element r.there; same = r.same }

    source_cons : (x : X) (xs : List X) (y : X) (b : Bool) → test x ≡ b → Contains (cond b (f x ∷ xs) (x ∷ change test f xs)) y → (Contains (change test f xs) y → Source xs y) → Source (x ∷ xs) y
    source_cons x xs y true t c rest =
        elim (contains_cons (f x) xs y c) [
          | inl e ↦ record { element = x; there = contains_here x xs; same = inr (sym e, t) }
          | inr r ↦ record { element = y; there = contains_there x xs y r; same = inl refl }
        ]
    source_cons x xs y false t c rest =
        elim (contains_cons x (change test f xs) y c) [
          | inl e ↦ record { element = x; there = contains_here x xs; same = inl (sym e) }
          | inr r ↦ source_there x xs y (rest r)
        ]

    pub source : (xs : List X) (y : X) → Contains (change test f xs) y → Source xs y
    source [] y c = absurd (contains_none y c)
    source (x ∷ xs) y c = source_cons x xs y (test x) refl c (source xs y)

    kept_cons : (x : X) (xs : List X) (y : X) (b : Bool) → (x ≡ y) ⊎ Contains xs y → (Contains xs y → Contains (change test f xs) y ⊎ Contains (change test f xs) (f y)) → Contains (cond b (f x ∷ xs) (x ∷ change test f xs)) y ⊎ Contains (cond b (f x ∷ xs) (x ∷ change test f xs)) (f y)
    kept_cons x xs y true (inl e) rest = inr (rw (← e) (contains_here (f x) xs))
    kept_cons x xs y true (inr c) rest = inl (contains_there (f x) xs y c)
    kept_cons x xs y false (inl e) rest = inl (rw (← e) (contains_here x (change test f xs)))
    kept_cons x xs y false (inr c) rest =
        elim (rest c) [
          | inl r ↦ inl (contains_there x (change test f xs) y r)
          | inr r ↦ inr (contains_there x (change test f xs) (f y) r)
        ]

    -- an element stays, or it is changed
    pub kept : (xs : List X) (y : X) → Contains xs y → Contains (change test f xs) y ⊎ Contains (change test f xs) (f y)
    kept [] y c = absurd (contains_none y c)
    kept (x ∷ xs) y c = kept_cons x xs y (test x) (contains_cons x xs y c) (kept xs y)
