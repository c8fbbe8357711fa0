use Rattle.std.proofs.Common.{◌≡◌, ◌++◌, map, take, drop}
use Rattle.dill_rules.specs.State.{lined}
use Rattle.dill_world.proofs.lining.line_each.Given as goal

abbrev pub invariant-loop-c : goal.invariant-loop-c
invariant-loop-c g l = l.coroutines ≡ map lined (take l.c-index l.fn.coroutines) ++ drop l.c-index l.fn.coroutines
