use Rattle.std.proofs.Common.{◌≡◌, ◌++◌, drop, map}
use Rattle.dill_rules.specs.Channeling.{bare_clause}
use Rattle.dill_world.proofs.channeling.bare_clauses.Given as goal

abbrev pub invariant-loop-clause : goal.invariant-loop-clause
invariant-loop-clause l = l.bare ++ map bare_clause (drop l.clause-index l.clauses) ≡ map bare_clause l.clauses
