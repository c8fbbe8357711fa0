use Rattle.dill_ws.proofs.Asking.{is_asked}
use Rattle.dill_ws.proofs.request.read_client_head.Goals as goal

pub returns-clause-spelled : goal.returns-clause-spelled
returns-clause-spelled c = is_asked c.http_laws.ensures.lines c.args.bytes.now c.asked_by_lines.ensures.line c.asked_by_lines.result c.asked_by_lines.ensures.front
