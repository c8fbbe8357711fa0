use Rattle.laws_fits.proofs.Called.{stacks_stay}
use Rattle.laws_fits.proofs.laws.stacks_stay.Goals as goal

pub returns : goal.returns
returns g c = stacks_stay g.row.B.Denot
