use Rattle.laws_looks.proofs.Quieted.{looks_settle}
use Rattle.laws_looks.proofs.laws.looks_settle.Goals as goal

pub returns : goal.returns
returns g c = looks_settle c.again_laws.ensures
