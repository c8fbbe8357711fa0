use Rattle.dill_stack.proofs.BreakTold.{breaking_laws}
use Rattle.dill_stack.proofs.laws.breaking_laws.Goals as goal

pub returns : goal.returns
returns c = breaking_laws c.frame_laws.ensures c.front_laws.ensures
