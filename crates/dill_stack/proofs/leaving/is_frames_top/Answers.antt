use Rattle.dill_stack.specs.Standing.{base_layers}
use Rattle.dill_stack.proofs.Endings.{not_frames}
use Rattle.dill_stack.proofs.leaving.is_frames_top.Goals as goal

pub returns-in-len1-up : goal.returns-in-len1-up
returns-in-len1-up c = not_frames c.args.terms.now (base_layers c.args.base.now) c.in-len1-up.len_at_least
