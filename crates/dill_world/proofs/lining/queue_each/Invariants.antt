use Rattle.std.proofs.Common.{◌≡◌, ◌++◌, take, vec_capacity}
use Rattle.dill_world.specs.Lined.{fresh_of}
use Rattle.dill_world.proofs.lining.queue_each.Given as goal

abbrev pub invariant-loop-c : goal.invariant-loop-c
invariant-loop-c g l = record {
  items : l.ready.items ≡ l.fn.ready.items ++ fresh_of (take l.c-index l.coroutines);
  capacity : vec_capacity l.ready ≡ vec_capacity l.fn.ready;
}
