use Rattle.std.proofs.Common.{◌∙◌, ap, sym}
use Rattle.dill_stack.specs.Rooms.{Stocked}
use Rattle.dill_stack.proofs.Greetings.{heard_short}
use Rattle.dill_stack.proofs.stack.Stack.greeted.Goals as goal

pub returns-clause-short : goal.returns-clause-short
returns-clause-short c = λ h k. heard_short c.handshake_laws.ensures c.args.self.now.held c.hear.new.self.held (ap {A = Stocked} (λ s. s.held) c.hear.ensures.stack) (sym c.hear.ensures.said ∙ h) k
