use Rattle.dill_script.specs.Operands.{args_of}
use Rattle.relay_lines.proofs.Joins.{takes_more}
use Rattle.relay_lines.proofs.operands.with_args.Goals as goal

pub loop-rest-preserved : goal.loop-rest-preserved
loop-rest-preserved c = takes_more args_of c.loop-rest.operands _ c.loop-rest.rest.now c.in-Some.arg c.in-Some.behind.now _ c.loop-rest.invariant c.in-Some.ensures c.in_ok-push-in-Some.ensures.ok
