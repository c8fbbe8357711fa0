use Rattle.std.proofs.Common.{◌∷◌, [], subst, sym}
use Rattle.dill_stack.specs.Framing.{StackPassed}
use Rattle.dill_stack.proofs.Passers.{steps_frame, steps_ping}
use Rattle.dill_stack.proofs.stack.Stack.pass_next.Goals as goal

pub returns-in-Frame : goal.returns-in-Frame
returns-in-Frame g c = steps_frame c.args.limit c.args.self.now c.pass_one.new.self (g.R.Rng.stream c.args.keys.now) c.in-Frame.ensures

pub returns-in-Ping : goal.returns-in-Ping
returns-in-Ping g c = steps_ping c.args.limit c.as_slice.result.now c.args.self.now c.pass_one.new.self c.answer_ping.new.self (g.R.Rng.stream c.args.keys.now) (g.R.Rng.stream c.answer_ping.new.keys) (subst (λ m. StackPassed c.args.limit (m ∷ []) c.args.self.now c.pass_one.new.self) (sym c.as_slice.ensures.value) c.in-Ping.ensures) c.answer_ping.ensures.stack c.answer_ping.ensures.random
