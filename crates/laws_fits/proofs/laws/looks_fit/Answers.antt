use Rattle.laws_fits.proofs.Called.{looks_fit}
use Rattle.laws_fits.proofs.laws.looks_fit.Goals as goal

pub returns : goal.returns
returns g c = looks_fit g.B.Body.means
