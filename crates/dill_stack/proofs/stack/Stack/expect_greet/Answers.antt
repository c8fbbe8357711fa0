use Rattle.std.proofs.Common.{sym, refl}
use Rattle.dill_stack.proofs.Greetings.{expect_refused, expects, has_expected, not_expected}
use Rattle.dill_stack.proofs.stack.Stack.expect_greet.Goals as goal

pub returns-in-Some : goal.returns-in-Some
returns-in-Some c = (expect_refused c.args.text c.args.self.now.held c.in-Some.e (sym c.in-Some.ensures), refl)

pub returns-in-Ok : goal.returns-in-Ok
returns-in-Ok c = has_expected c.args.text c.args.self.now c.put_frames.new.self c.set_task.new.self (expects c.args.text c.args.self.now.held (sym c.in_default.ensures)) c.requires.bare c.in-Ok.ensures.ok c.set_task.ensures

pub returns-in-Err : goal.returns-in-Err
returns-in-Err c = not_expected c.in-Err.e _ _ c.args.self.now c.put_frames.new.self (expects c.args.text c.args.self.now.held (sym c.in_default.ensures)) c.in-Err.ensures.memory c.in-Err.ensures.err
