use Rattle.std.proofs.Common.{subst, sym, Option}
use Rattle.dill_http.specs.declared.span.Cut.{Cut}
use Rattle.dill_http.specs.Heads.{Request}
use Rattle.dill_http.specs.Reading.{IsCut}
use Rattle.dill_http.proofs.Requests.{request_is_cut}
use Rattle.dill_http.proofs.request.read_request.Goals as goal

pub returns-clause-reads : goal.returns-clause-reads
returns-clause-reads c = subst (λ (o : Option Cut). IsCut Request c.args.line.now o) (sym c.cut_request.ensures) (request_is_cut c.args.line.now)
