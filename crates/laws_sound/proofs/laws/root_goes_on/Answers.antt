use Rattle.laws_sound.proofs.Going.{root_goes_on}
use Rattle.laws_sound.proofs.laws.root_goes_on.Goals as goal

pub returns : goal.returns
returns g c = root_goes_on g.B.Body.means
