use Rattle.dill_ws.proofs.Splits.{stopped, goes_on, some_to, none_to}
use Rattle.dill_ws.proofs.line.first_line.Goals as goal

pub returns-clause-none : goal.returns-clause-none
returns-clause-none c = none_to c.cut_line.result (λ e. let k = stopped c.args.bytes.now e in (k.lines_are, k.behind_is)) c.cut_line.ensures.none

pub returns-clause-lines : goal.returns-clause-lines
returns-clause-lines c = some_to c.cut_line.result (λ l e. (goes_on c.http_laws.ensures.lines c.args.bytes.now l.text.now l.rest.now e).lines_are) c.cut_line.ensures.some

pub returns-clause-rest : goal.returns-clause-rest
returns-clause-rest c = some_to c.cut_line.result (λ l e. (goes_on c.http_laws.ensures.lines c.args.bytes.now l.text.now l.rest.now e).behind_is) c.cut_line.ensures.some
