-- The debt of a bundle that is closing: the turns that the coroutines inside it may still take.
use Rattle.std.specs.Prelude.{ℕ, ◌+◌, filter, sum_by, Bool, false, if◌then◌else◌, nat_lt}
use Rattle.dill_calls.specs.Program.{Program}
use Rattle.dill_scope.specs.Scopes.{is_inside}
use Rattle.dill_base.specs.Maps.{if_some}
use Rattle.dill_rules.specs.declared.coroutine.Coroutine.{Coroutine}
use Rattle.dill_rules.specs.World.{is_ending}
use Rattle.dill_rules.specs.State.{State, stamp_of}

module _ {V : Type 0} where
  -- the answer came before the closing of the bundle
  abbrev pub is_early : State V → ℕ → ℕ → Bool
  is_early s bundle who = if_some (stamp_of s.closings bundle) false (λ closed. if_some (stamp_of s.answers who) false (λ answered. nat_lt answered closed))

  -- none of who is ending; of an answer that came before the closing one more than the most; else what is left
  abbrev pub share : Program V → State V → ℕ → Coroutine V → ℕ
  share p s bundle c = if is_ending c.mode then 0 else (if is_early s bundle c.number then 1 + p.most c.body else p.left c.body)

  -- the sum over the coroutines inside the bundle
  abbrev pub debt : Program V → State V → ℕ → ℕ
  debt p s bundle = sum_by (share p s bundle) (filter (λ c. is_inside s.world.scopes bundle c.number) s.world.coroutines)
