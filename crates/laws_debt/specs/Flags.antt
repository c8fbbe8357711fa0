-- Bundles by rising name, of which each that is closing is the root or has a closing noted.
use Rattle.std.specs.Prelude.{◌≡◌, ◌⊎◌, ℕ, ◌+◌, ◌≤◌, List, [], ◌∷◌, map, true}
use Rattle.std.specs.List.{AllByRecursion}
use Rattle.dill_scope.specs.declared.forest.Bundle.{Bundle}
use Rattle.dill_rules.specs.declared.coroutine.Closing.{Closing}
use Rattle.dill_rules.specs.World.{World}
use Rattle.laws_queue.specs.Well.{occurs}

-- the names rise, from the first bound on up to the second
abbrev pub Ranked : ℕ → List Bundle → ℕ → Type 0
Ranked low [] high = low ≤ high + 1
Ranked low (x ∷ xs) high = (low ≤ x.name) × Ranked (x.name + 1) xs high

-- if it is closing it is the root, or its closing is noted
abbrev pub IsFlagged : List Closing → Bundle → Type 0
IsFlagged closings x = x.closing ≡ true → (x.name ≡ 0) ⊎ (1 ≤ occurs x.name (map (λ c. c.bundle) closings))

-- of these bundles, with these closings noted, and up to this last name
pub record AreNoted (bundles : List Bundle) (closings : List Closing) (last : ℕ) : Type 0 where
  pub ranked : Ranked 0 bundles last
  pub flagged : AllByRecursion (IsFlagged closings) bundles

abbrev pub HasFlags : {V : Type 0} → World V → Type 0
HasFlags w = AreNoted w.scopes.bundles w.closings w.last_bundle
