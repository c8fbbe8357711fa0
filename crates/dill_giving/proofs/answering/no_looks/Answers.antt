use Rattle.dill_giving.proofs.Unseen.{no_looks}
use Rattle.dill_giving.proofs.answering.no_looks.Goals as goal

pub returns : goal.returns
returns g c = no_looks
