use Rattle.std.proofs.Common.{◌≡◌, ◌++◌, drop}
use Rattle.dill_world.specs.Channeled.{waits_of}
use Rattle.dill_world.specs.Store.{world_of}
use Rattle.dill_world.proofs.world.World.each_wait.Given as goal

abbrev pub invariant-loop-clause : goal.invariant-loop-clause
invariant-loop-clause g l = record {
  index : l.index ≡ l.clause-index;
  rest : l.waits.items ++ waits_of (world_of l.self) l.who l.index (drop l.clause-index l.clauses) ≡ waits_of (world_of l.self) l.who 0 l.clauses;
}
