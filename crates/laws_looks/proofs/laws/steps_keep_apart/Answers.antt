use Rattle.laws_looks.proofs.Steps.{steps_keep_apart}
use Rattle.laws_looks.proofs.laws.steps_keep_apart.Goals as goal

pub returns : goal.returns
returns g c = steps_keep_apart g.B.Body.means
