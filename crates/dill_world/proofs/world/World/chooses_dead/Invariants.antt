use Rattle.std.proofs.Common.{◌≡◌, map, drop}
use Rattle.std.specs.List.{list_any}
use Rattle.dill_rules.specs.Naming.{end_of_clause}
use Rattle.dill_rules.specs.Kinds as kinds
use Rattle.dill_world.specs.Store.{world_of}
use Rattle.dill_world.proofs.world.World.chooses_dead.Given as goal

abbrev pub invariant-loop-clause : goal.invariant-loop-clause
invariant-loop-clause g l = list_any (kinds.is_dead (world_of l.self)) (map end_of_clause (drop l.clause-index l.clauses)) ≡ list_any (kinds.is_dead (world_of l.self)) (map end_of_clause l.clauses)
