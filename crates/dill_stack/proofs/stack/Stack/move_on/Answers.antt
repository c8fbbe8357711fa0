use Rattle.std.proofs.Common.{refl}
use Rattle.dill_stack.proofs.Towers.{received_tower}
use Rattle.dill_stack.proofs.stack.Stack.move_on.Goals as goal

pub returns : goal.returns
returns c = rw (c.use_up.ensures, c.set_received.ensures) (rw (← c.self.view_is) (rw (← received_tower c.args.place c.self.inside.terms.items c.self.inside.base c.self.invariant.0.based) refl))
