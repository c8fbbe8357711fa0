use Rattle.laws_queue.proofs.Keeping.{steps_keep_well}
use Rattle.laws_queue.proofs.laws.steps_keep_well.Goals as goal

pub returns : goal.returns
returns g c = steps_keep_well g.B.Body.means g.met.B.Body.lawful
