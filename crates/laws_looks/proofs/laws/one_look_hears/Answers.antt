use Rattle.laws_looks.proofs.Makes.{one_look_hears}
use Rattle.laws_looks.proofs.laws.one_look_hears.Goals as goal

pub returns : goal.returns
returns g c = one_look_hears c.again_laws.ensures
