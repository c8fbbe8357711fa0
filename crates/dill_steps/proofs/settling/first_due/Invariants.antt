use Rattle.std.proofs.Common.{◌≡◌, drop}
use Rattle.dill_base.specs.Maps.{first_some}
use Rattle.dill_world.specs.Store.{world_of, ArePlain}
use Rattle.dill_steps.specs.Asking.{asked_due}
use Rattle.dill_steps.proofs.settling.first_due.Given as goal

-- what is left decides
abbrev pub invariant-loop-c : goal.invariant-loop-c
invariant-loop-c g l = record {
  plain : ArePlain (drop l.c-index l.coroutines);
  rest : first_some (asked_due (world_of l.world)) (drop l.c-index l.coroutines) ≡ first_some (asked_due (world_of l.world)) l.coroutines;
}
