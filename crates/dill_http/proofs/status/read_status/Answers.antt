use Rattle.std.proofs.Common.{subst, sym, Option, ℕ}
use Rattle.dill_http.specs.declared.span.Span.{Span}
use Rattle.dill_http.specs.Reading.{IsStatusCut}
use Rattle.dill_http.proofs.Statuses.{status_is_cut}
use Rattle.dill_http.proofs.status.read_status.Goals as goal

pub returns-clause-reads : goal.returns-clause-reads
returns-clause-reads c = subst (λ (o : Option (ℕ × Span)). IsStatusCut c.args.line.now o) (sym c.cut_status.ensures) (status_is_cut c.args.line.now)
