-- Which states a core stands for: those with its world, whose stamps have the order of its queue.
use Rattle.std.specs.Prelude.{◌≡◌, ℕ, ◌+◌, ◌≤◌, List, [], ◌∷◌, map}
use Rattle.dill_rules.specs.State.{State, Stamp}
use Rattle.laws_queue.specs.Kept.{Kept}
use Rattle.laws_queue.specs.Lending.{wordless}

-- the stamps rise from a number on, up to the next one
abbrev pub Rise : ℕ → List Stamp → ℕ → Type 0
Rise low [] next = low ≤ next
Rise low (x ∷ xs) next = (low ≤ x.at) × Rise (x.at + 1) xs next

pub record StandsFor {V : Type 0} (k : Kept V) (s : State V) : Type 0 where
  pub world : k.world ≡ wordless s.world
  pub order : k.ready ≡ map (λ x. x.of) s.answers
  pub rise : Rise 0 s.answers s.next
