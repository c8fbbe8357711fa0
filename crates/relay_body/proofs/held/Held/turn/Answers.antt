use Rattle.relay_body.proofs.Turned.{walks_given, runs_made, turns_made}
use Rattle.relay_body.proofs.held.Held.turn.Goals as goal

pub walk-requires-clause-walking : goal.walk-requires-clause-walking
walk-requires-clause-walking c = walks_given c.args.self.now c.receive-mode.new.self c.receive-mode.result c.args.given c.requires c.receive-mode.ensures

pub make-requires-clause-calls : goal.make-requires-clause-calls
make-requires-clause-calls c = c.if-walk.ensures.calls

pub returns-then-walk-clause-turns : goal.returns-then-walk-clause-turns
returns-then-walk-clause-turns c = turns_made c.args.self.now c.receive-mode.new.self c.walk.new.self c.make.new.self c.receive-mode.result c.args.given c.make.result c.receive-mode.ensures c.if-walk.ensures.walk c.make.ensures

pub returns-then-walk-clause-running : goal.returns-then-walk-clause-running
returns-then-walk-clause-running c = runs_made c.walk.new.self c.make.new.self c.make.result c.if-walk.ensures.running c.make.ensures
