use Rattle.relay_body.proofs.Making.{form_calls}
use Rattle.relay_body.specs.Seen.{seen}
use Rattle.relay_body.proofs.held.Held.calls.Goals as goal

pub returns-in-Some-Call : goal.returns-in-Some-Call
returns-in-Some-Call c = form_calls (seen c.args.self.now) c.in-Some-Call.field-0-0 c.in-Some-Call.field-0-1 c.in-Some-Call.field-0-2 c.requires (rw c.in-Some-Call.field-0-is at c.in-Some-Call.ensures)
