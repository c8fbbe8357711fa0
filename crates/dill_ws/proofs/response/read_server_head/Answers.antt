use Rattle.dill_ws.proofs.Agreeing.{is_agreed}
use Rattle.dill_ws.proofs.response.read_server_head.Goals as goal

pub returns-clause-spelled : goal.returns-clause-spelled
returns-clause-spelled c = is_agreed c.http_laws.ensures.lines c.args.accept c.args.bytes.now c.agreed_by_lines.ensures.line c.agreed_by_lines.result c.agreed_by_lines.ensures.front
