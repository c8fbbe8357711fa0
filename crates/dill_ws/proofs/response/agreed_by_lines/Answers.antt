use Rattle.std.proofs.Common.{sym, ◌∙◌}
use Rattle.dill_ws.proofs.Agreeing.{agreed_whole, agreed_bad, agreed_open, agreed_fault}
use Rattle.dill_ws.proofs.HeadReads.{head_there}
use Rattle.dill_ws.proofs.response.agreed_by_lines.Goals as goal

pub returns-then-not-agrees-clause-front : goal.returns-then-not-agrees-clause-front
returns-then-not-agrees-clause-front c = agreed_bad c.args.accept c.args.bytes.now _ _ _ c.in-Whole.ensures.stop (sym c.agrees.ensures ∙ c.if-not-agrees.true)

pub size_of_head-size-requires : goal.size_of_head-size-requires
size_of_head-size-requires c = (head_there c.http_laws.ensures.lines c.args.bytes.now _ _ _ (sym c.in-Whole.ensures.stop)).there

pub returns-else-not-agrees-clause-front : goal.returns-else-not-agrees-clause-front
returns-else-not-agrees-clause-front c = agreed_whole c.args.accept c.args.bytes.now c.size_of_head-size.result _ _ _ c.in-Whole.ensures.stop (sym c.agrees.ensures ∙ c.if-not-agrees.false) c.size_of_head-size.ensures

pub returns-in-Need-clause-front : goal.returns-in-Need-clause-front
returns-in-Need-clause-front c = agreed_open c.args.accept c.args.bytes.now c.in-Need.ensures.stop

pub returns-in-Fault-clause-front : goal.returns-in-Fault-clause-front
returns-in-Fault-clause-front c = agreed_fault c.args.accept c.args.bytes.now c.in-Fault.errno c.in-Fault.ensures.stop
