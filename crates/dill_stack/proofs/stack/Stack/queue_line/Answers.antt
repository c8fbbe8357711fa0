use Rattle.std.proofs.Common.{refl}
use Rattle.dill_stack.specs.Layers.{AmongFields}
use Rattle.dill_stack.proofs.Towers.{place_tower, before_tower}
use Rattle.dill_stack.proofs.stack.Stack.queue_line.Goals as goal

pub returns-in-Ok-clause-ok : goal.returns-in-Ok-clause-ok
returns-in-Ok-clause-ok c = rw (c.push_line.ensures.queued, c.push_line.ensures.placed, c.in-Ok.ensures.ok) (rw (← c.self.view_is) (rw (← before_tower c.self.inside.terms.items c.self.inside.base c.self.invariant.0.based, ← place_tower AmongFields c.self.inside.terms.items c.self.inside.base c.self.invariant.0.based) refl))
