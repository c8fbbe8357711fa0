-- Where a link goes.
use Rattle.std.proofs.Common.{◌≡◌, ◌∙◌, ℕ, suc, ◌+◌, List, [], ◌∷◌, length, nat_lt, Bool, true, false, cond, Some, None, refl, ap, arith}
use Rattle.std.specs.List.{position_from, insert}
use Rattle.dill_pollset.specs.declared.interest.Interest.{Interest}
use Rattle.dill_pollset.specs.Watching.{is_above, placed}

-- the place of the first of a greater number
pub Spot : Interest → List Interest → ℕ → ℕ → Type 0
Spot new xs j i = (k : ℕ) × (i ≡ j + k) × (placed new xs ≡ insert xs k new)

spot_cons : (new x : Interest) (xs : List Interest) (j i : ℕ) (b : Bool) → nat_lt new.link x.link ≡ b → cond b (Some j) (position_from (is_above new.link) (j + 1) xs) ≡ Some i → (position_from (is_above new.link) (j + 1) xs ≡ Some i → Spot new xs (j + 1) i) → Spot new (x ∷ xs) j i
unfolding Spot
spot_cons new x xs j i true e h rest =
    let same : j ≡ i = cc in
    (0, omega arith, rw e refl)
spot_cons new x xs j i false e h rest =
    let r : Spot new xs (j + 1) i = rest h in
    (suc r.0, omega (arith, r.1), rw e (ap (λ ys. x ∷ ys) r.2))

spot_from : (new : Interest) (xs : List Interest) (j i : ℕ) → position_from (is_above new.link) j xs ≡ Some i → Spot new xs j i
spot_from new [] j i h = cc
spot_from new (x ∷ xs) j i h = spot_cons new x xs j i (nat_lt new.link x.link) refl h (spot_from new xs (j + 1) i)

pub spot : (new : Interest) (xs : List Interest) (i : ℕ) → position_from (is_above new.link) 0 xs ≡ Some i → placed new xs ≡ insert xs i new
unfolding Spot
spot new xs i h =
    let r : Spot new xs 0 i = spot_from new xs 0 i h in
    let same : r.0 ≡ i = omega (arith, r.1) in
    r.2 ∙ ap (λ k. insert xs k new) same

end_cons : (new x : Interest) (xs : List Interest) (j : ℕ) (b : Bool) → nat_lt new.link x.link ≡ b → cond b (Some j) (position_from (is_above new.link) (j + 1) xs) ≡ None → (position_from (is_above new.link) (j + 1) xs ≡ None → placed new xs ≡ insert xs (length xs) new) → placed new (x ∷ xs) ≡ insert (x ∷ xs) (length (x ∷ xs)) new
end_cons new x xs j true e h rest = cc
end_cons new x xs j false e h rest = rw e (ap (λ ys. x ∷ ys) (rest h))

-- behind all where none has a greater number
pub end : (new : Interest) (xs : List Interest) (j : ℕ) → position_from (is_above new.link) j xs ≡ None → placed new xs ≡ insert xs (length xs) new
end new [] j h = refl
end new (x ∷ xs) j h = end_cons new x xs j (nat_lt new.link x.link) refl h (end new xs (j + 1))
