use Rattle.std.proofs.Common.{ap, sym}
use Rattle.dill_stack.proofs.Sends.{frames, short_send}
use Rattle.dill_stack.proofs.stack.Stack.spells.Goals as goal

pub returns-clause-due : goal.returns-clause-due
returns-clause-due c = λ random. frames c.args.message.now c.self.inside.terms.items c.self.inside.base c.args.self.now.held random (ap (λ s. s.held.layers) (sym c.self.view_is)) c.requires

pub returns-clause-short : goal.returns-clause-short
returns-clause-short c = short_send c.args.message.now c.args.self.now.held c.requires
