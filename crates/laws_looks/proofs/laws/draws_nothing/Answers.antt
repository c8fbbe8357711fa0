use Rattle.laws_looks.proofs.Restful.{draws_nothing}
use Rattle.laws_looks.proofs.laws.draws_nothing.Goals as goal

pub returns : goal.returns
returns g c = draws_nothing c.again_laws.ensures
