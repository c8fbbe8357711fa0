use Rattle.std.proofs.Common.{◌∙◌}
use Rattle.dill_stack.specs.Standing.{base_layers}
use Rattle.dill_stack.proofs.Endings.{end_masks}
use Rattle.dill_stack.proofs.sending.masks_end.Goals as goal

pub returns-in-len1-up : goal.returns-in-len1-up
returns-in-len1-up c = c.masks.ensures ∙ end_masks c.args.terms.now (base_layers c.args.base.now) c.in-len1-up.len_at_least
