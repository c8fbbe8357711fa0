use Rattle.std.proofs.Common.{◌≡◌, map, drop}
use Rattle.std.specs.List.{list_any}
use Rattle.dill_rules.specs.Naming.{end_of_clause}
use Rattle.dill_rules.specs.Taking as taking
use Rattle.dill_world.specs.Store.{world_of}
use Rattle.dill_world.proofs.world.World.chooses_occupied.Given as goal

abbrev pub invariant-loop-clause : goal.invariant-loop-clause
invariant-loop-clause g l = list_any (λ number. taking.is_pending (world_of l.self) (taking.is_alone_on number)) (map end_of_clause (drop l.clause-index l.clauses)) ≡ list_any (λ number. taking.is_pending (world_of l.self) (taking.is_alone_on number)) (map end_of_clause l.clauses)
