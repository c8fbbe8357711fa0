use Rattle.std.proofs.Common.{sym, refl}
use Rattle.dill_stack.proofs.Greetings.{greet_refused}
use Rattle.dill_stack.proofs.stack.Stack.greet.Goals as goal

pub returns-in-Some : goal.returns-in-Some
returns-in-Some g c = record { due = greet_refused c.args.text c.args.resource.now c.args.host.now (g.R.Rng.stream c.args.keys.now) c.args.self.now.held c.in-Some.e (sym c.in-Some.ensures); same = refl; kept = refl }
