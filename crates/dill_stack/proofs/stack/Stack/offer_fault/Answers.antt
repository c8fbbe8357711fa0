use Rattle.std.proofs.Common.{◌∙◌}
use Rattle.dill_stack.proofs.Greetings.{offers_by}
use Rattle.dill_stack.proofs.stack.Stack.offer_fault.Goals as goal

pub returns : goal.returns
returns c = c.first_fault.ensures ∙ rw (c.is_invalid.ensures, c.is_refused.ensures, c.is_done.ensures, c.is_broken.ensures) (offers_by c.args.resource.now c.args.host.now c.head_fault-own.result c.args.self.now.held c.head_fault-own.ensures)
