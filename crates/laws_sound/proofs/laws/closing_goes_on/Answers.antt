use Rattle.laws_sound.proofs.Going.{closing_goes_on}
use Rattle.laws_sound.proofs.laws.closing_goes_on.Goals as goal

pub returns : goal.returns
returns g c = closing_goes_on g.row.B.Denot
