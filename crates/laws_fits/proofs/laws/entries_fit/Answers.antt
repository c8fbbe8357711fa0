use Rattle.laws_fits.proofs.Called.{entries_fit}
use Rattle.laws_fits.proofs.laws.entries_fit.Goals as goal

pub returns : goal.returns
returns g c = entries_fit g.B.Body.means
