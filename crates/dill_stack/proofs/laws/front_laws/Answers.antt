use Rattle.dill_stack.proofs.Fronts.{front_stays}
use Rattle.dill_stack.proofs.laws.front_laws.Goals as goal

pub returns : goal.returns
returns c = front_stays c.frame_laws.ensures
