use Rattle.std.proofs.Common.{subst, sym, Option}
use Rattle.dill_http.specs.declared.span.Cut.{Cut}
use Rattle.dill_http.specs.Heads.{Field}
use Rattle.dill_http.specs.Reading.{IsCut}
use Rattle.dill_http.proofs.Fields.{field_is_cut}
use Rattle.dill_http.proofs.field.read_field.Goals as goal

pub returns-clause-reads : goal.returns-clause-reads
returns-clause-reads c = subst (λ (o : Option Cut). IsCut Field c.args.line.now o) (sym c.cut_field.ensures) (field_is_cut c.args.line.now)
