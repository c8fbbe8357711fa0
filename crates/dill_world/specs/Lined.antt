-- The numbers of those who were answered in a step.
use Rattle.std.specs.Prelude.{ℕ, List, [], ◌∷◌, flat_map, if◌then◌else◌}
use Rattle.dill_rules.specs.declared.coroutine.Coroutine.{Coroutine}
use Rattle.dill_rules.specs.State.{is_fresh}

module _ {V : Type 0} where
  -- the number of one of them
  abbrev pub fresh_one : Coroutine V → List ℕ
  fresh_one c = if is_fresh c.mode then c.number ∷ [] else []

  -- the numbers of all of them, the lower first
  abbrev pub fresh_of : List (Coroutine V) → List ℕ
  fresh_of cs = flat_map fresh_one cs
