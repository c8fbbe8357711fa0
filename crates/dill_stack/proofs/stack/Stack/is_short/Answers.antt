use Rattle.std.proofs.Common.{sym}
use Rattle.dill_stack.proofs.Towers.{joined_tower, not_short}
use Rattle.dill_stack.proofs.stack.Stack.is_short.Goals as goal

pub returns-in-Message : goal.returns-in-Message
returns-in-Message c = rw (← c.self.view_is) (rw (c.in-Message.is, c.joined_count.ensures) (sym (joined_tower c.in-Message.limit c.self.inside.terms.items c.self.inside.base)))

pub returns-in_default : goal.returns-in_default
returns-in_default c = not_short c.args.want c.args.self.now.held.layers c.in_default.not-Message
