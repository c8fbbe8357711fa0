use Rattle.dill_script.specs.Operands.{clauses_of}
use Rattle.relay_lines.proofs.Joins.{takes_more}
use Rattle.relay_lines.proofs.operands.with_clauses.Goals as goal

pub loop-rest-preserved : goal.loop-rest-preserved
loop-rest-preserved c = takes_more clauses_of c.loop-rest.operands _ c.loop-rest.rest.now c.in-Some.clause c.in-Some.behind.now _ c.loop-rest.invariant (rw c.in-Some.is at c.in_ok-clause.ensures) c.in_ok-push-in-Some.ensures.ok
