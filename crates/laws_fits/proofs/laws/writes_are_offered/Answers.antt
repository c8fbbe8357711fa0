use Rattle.laws_fits.proofs.Rooms.{writes_are_offered}
use Rattle.laws_fits.proofs.laws.writes_are_offered.Goals as goal

pub returns : goal.returns
returns g c = writes_are_offered
