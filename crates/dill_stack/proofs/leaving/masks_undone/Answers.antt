use Rattle.std.proofs.Common.{◌∙◌, sym}
use Rattle.dill_stack.specs.Standing.{base_layers}
use Rattle.dill_stack.proofs.Endings.{done_part, undone_part}
use Rattle.dill_stack.proofs.leaving.masks_undone.Goals as goal

pub returns-then-is_top_done : goal.returns-then-is_top_done
returns-then-is_top_done c = done_part c.args.terms.now (base_layers c.args.base.now) (sym c.is_top_done.ensures ∙ c.if-is_top_done.true)

pub returns : goal.returns
returns c = c.masks.ensures ∙ undone_part c.args.terms.now (base_layers c.args.base.now) c.requires (sym c.is_top_done.ensures ∙ c.if-is_top_done.false)
