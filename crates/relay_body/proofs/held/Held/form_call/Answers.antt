use Rattle.relay_body.proofs.Placing.{form_named, called_placed}
use Rattle.relay_body.specs.Seen.{seen}
use Rattle.relay_body.proofs.held.Held.form_call.Goals as goal

pub placed_call-requires-clause-call : goal.placed_call-requires-clause-call
placed_call-requires-clause-call c = form_named c.args.form.now c.requires.fits

pub returns-clause-ok : goal.returns-clause-ok
returns-clause-ok c = called_placed (seen c.args.self.now) c.args.form.now c.placed_call.result c.requires.fits (rw c.as_slice.ensures at c.placed_call.ensures.ok)
