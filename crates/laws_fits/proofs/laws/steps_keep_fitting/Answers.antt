use Rattle.laws_fits.proofs.Steps.{steps_keep_fitting}
use Rattle.laws_fits.proofs.laws.steps_keep_fitting.Goals as goal

pub returns : goal.returns
returns g c = steps_keep_fitting g.B.Body.means c.again_laws.ensures
