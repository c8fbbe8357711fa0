use Rattle.std.proofs.Common.{◌≡◌, ◌==◌, map, drop}
use Rattle.std.specs.List.{list_any}
use Rattle.dill_rules.specs.Naming.{end_of_clause}
use Rattle.dill_world.proofs.naming.is_chosen.Given as goal

abbrev pub invariant-loop-clause : goal.invariant-loop-clause
invariant-loop-clause l = list_any (λ n. n == l.number) (map end_of_clause (drop l.clause-index l.clauses)) ≡ list_any (λ n. n == l.number) (map end_of_clause l.clauses)
