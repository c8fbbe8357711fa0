use Rattle.std.proofs.Common.{◌≡◌, drop}
use Rattle.dill_rules.specs.Answers.{choice_fault}
use Rattle.dill_world.specs.Store.{world_of}
use Rattle.dill_world.proofs.world.World.choice_fault.Given as goal

abbrev pub invariant-loop-clause : goal.invariant-loop-clause
invariant-loop-clause g l = record {
  index : l.index ≡ l.clause-index;
  rest : choice_fault (world_of l.self) l.index (drop l.clause-index l.clauses) ≡ choice_fault (world_of l.self) 0 l.clauses;
}
