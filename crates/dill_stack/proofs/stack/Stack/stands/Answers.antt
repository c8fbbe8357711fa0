use Rattle.std.proofs.Common.{◌≤◌, length, subst}
use Rattle.dill_stack.specs.Formed.{IsFormed}
use Rattle.dill_stack.proofs.DropShort.{tower_droppable}
use Rattle.dill_stack.specs.Layers.{IsStanding}
use Rattle.dill_stack.specs.Rooms.{Stocked}
use Rattle.dill_stack.specs.Standing.{IsDroppable}
use Rattle.dill_stack.proofs.Shortness.{tower_stands}
use Rattle.dill_stack.proofs.Roominess.{formed_tower}
use Rattle.dill_stack.proofs.stack.Stack.stands.Goals as goal

pub returns-clause-standing : goal.returns-clause-standing
returns-clause-standing c = subst (λ (s : Stocked). IsStanding s.held.layers) c.self.view_is (tower_stands c.self.inside.terms.items c.self.inside.base c.self.invariant.0.based)

pub returns-clause-formed : goal.returns-clause-formed
returns-clause-formed c = subst (λ (s : Stocked). IsFormed s.held.layers) c.self.view_is (formed_tower c.self.inside.terms.items c.self.inside.base c.self.invariant.0.fits c.self.invariant.0.ends)

pub returns-clause-bounded : goal.returns-clause-bounded
returns-clause-bounded c = subst (λ (s : Stocked). 1 ≤ length s.held.layers → IsDroppable s.held.layers) c.self.view_is (tower_droppable c.self.inside.terms.items c.self.inside.base c.self.invariant.0.fits c.self.invariant.0.based)
