-- How far a list of coroutines reaches to a number.
use Rattle.std.specs.Prelude.{ℕ, ◌<◌, ◌≤◌, List, slice_index_or}
use Rattle.dill_rules.specs.declared.coroutine.Coroutine.{Coroutine}

-- the first so many have this number or a lower one
abbrev pub AreUpTo : {V : Type 0} → ℕ → List (Coroutine V) → ℕ → Type 0
AreUpTo {V} number cs count = (k : ℕ) (d : Coroutine V) → k < count → (slice_index_or cs k d).number ≤ number
