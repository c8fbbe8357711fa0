use Rattle.std.proofs.Common.{sym, ap, ◌∙◌}
use Rattle.dill_meaning.specs.Walks.{join_fault}
use Rattle.relay_body.specs.Seen.{seen}
use Rattle.relay_body.proofs.Joining.{join_makes}
use Rattle.relay_body.proofs.Making.{form_fits, form_moves}
use Rattle.relay_body.proofs.held.Held.make.Goals as goal

pub returns-in_default-join_fault : goal.returns-in_default-join_fault
returns-in_default-join_fault c =
    let view = seen c.args.self.now in
    let here = rw c.in-Some-Join.field-0-is at c.in-Some-Join.ensures in
    let fits = ap (λ more. join_fault view c.in-Some-Join.register more) (sym c.bytes_value-more.ensures) ∙ sym c.in_default-join_fault.ensures in
    join_makes c.args.self.now c.join.new.self c.in-Some-Join.field-0-0 c.in-Some-Join.register c.in-Some-Join.bytes c.from_slice-more.result c.join.result here fits (rw c.bytes_value-more.ensures at c.from_slice-more.ensures) c.join.ensures

pub form_call-requires-clause-fits : goal.form_call-requires-clause-fits
form_call-requires-clause-fits c = form_fits (seen c.args.self.now) c.in-Some-Call.field-0-0 c.in-Some-Call.field-0-1 c.in-Some-Call.form c.requires.runs (rw c.in-Some-Call.field-0-is at c.in-Some-Call.ensures)

pub returns-in-Ok : goal.returns-in-Ok
returns-in-Ok c = form_moves (seen c.args.self.now) c.in-Some-Call.field-0-0 c.in-Some-Call.field-0-1 c.in-Some-Call.form c.in-Ok.call (rw c.in-Some-Call.field-0-is at c.in-Some-Call.ensures) c.in-Ok.ensures.ok
