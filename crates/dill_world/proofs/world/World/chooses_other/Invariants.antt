use Rattle.std.proofs.Common.{◌≡◌, not, map, drop}
use Rattle.std.specs.List.{list_any}
use Rattle.dill_rules.specs.Naming.{end_of_clause}
use Rattle.dill_rules.specs.Kinds as kinds
use Rattle.dill_world.specs.Store.{world_of}
use Rattle.dill_world.proofs.world.World.chooses_other.Given as goal

abbrev pub invariant-loop-clause : goal.invariant-loop-clause
invariant-loop-clause g l = list_any (λ number. not (kinds.is_of_kind (world_of l.self) 2 number)) (map end_of_clause (drop l.clause-index l.clauses)) ≡ list_any (λ number. not (kinds.is_of_kind (world_of l.self) 2 number)) (map end_of_clause l.clauses)
