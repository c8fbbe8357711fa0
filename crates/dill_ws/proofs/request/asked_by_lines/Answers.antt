use Rattle.std.proofs.Common.{sym}
use Rattle.dill_ws.proofs.Asking.{asked_whole, asked_bad, asked_open, asked_fault}
use Rattle.dill_ws.proofs.HeadReads.{head_there}
use Rattle.dill_ws.proofs.request.asked_by_lines.Goals as goal

pub size_of_head-requires : goal.size_of_head-requires
size_of_head-requires c = (head_there c.http_laws.ensures.lines c.args.bytes.now _ _ _ (sym c.in-Whole.ensures.stop)).there

pub returns-in-Some-clause-front : goal.returns-in-Some-clause-front
returns-in-Some-clause-front c = asked_whole c.args.bytes.now c.in-Some.key c.size_of_head.result _ _ _ c.in-Whole.ensures.stop c.in-Some.ensures.some c.size_of_head.ensures

pub returns-in-None-clause-front : goal.returns-in-None-clause-front
returns-in-None-clause-front c = asked_bad c.args.bytes.now _ _ _ c.in-Whole.ensures.stop c.in-None.ensures.none

pub returns-in-Need-clause-front : goal.returns-in-Need-clause-front
returns-in-Need-clause-front c = asked_open c.args.bytes.now c.in-Need.ensures.stop

pub returns-in-Fault-clause-front : goal.returns-in-Fault-clause-front
returns-in-Fault-clause-front c = asked_fault c.args.bytes.now c.in-Fault.errno c.in-Fault.ensures.stop
