use Rattle.laws_sound.proofs.Going.{bundle_goes_on}
use Rattle.laws_sound.proofs.laws.bundle_goes_on.Goals as goal

pub returns : goal.returns
returns g c = bundle_goes_on g.B.Body.means
