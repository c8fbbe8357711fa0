use Rattle.std.proofs.Common.{◌∙◌, sym}
use Rattle.dill_stack.specs.Standing.{base_layers}
use Rattle.dill_stack.proofs.Sends.{masks_tower}
use Rattle.dill_stack.proofs.stack.Stack.masks.Goals as goal

pub returns : goal.returns
returns c = rw (← c.self.view_is) (c.masks.ensures ∙ sym (masks_tower c.self.inside.terms.items (base_layers c.self.inside.base)))
