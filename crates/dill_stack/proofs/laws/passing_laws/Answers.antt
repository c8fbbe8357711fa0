use Rattle.dill_stack.proofs.Passings.{passes_frames}
use Rattle.dill_stack.proofs.laws.passing_laws.Goals as goal

pub returns : goal.returns
returns c = passes_frames c.frame_laws.ensures
