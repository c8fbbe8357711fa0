use Rattle.std.proofs.Common.{◌≡◌, ◌-◌, ◌≤◌, length}
use Rattle.dill_rules.specs.Settling.{settle_within}
use Rattle.dill_world.specs.Store.{world_of}
use Rattle.dill_steps.proofs.settling.settle.Given as goal

-- what is still to settle decides, and nobody is new
abbrev pub invariant-loop : goal.invariant-loop
invariant-loop g l = record {
  end : l.end ≡ length l.fn.world.coroutines;
  rest : settle_within (length l.fn.world.coroutines) (world_of l.fn.world) ≡ settle_within (l.end - l.counter) (world_of l.world);
  few : length l.world.coroutines ≤ length l.fn.world.coroutines;
}
