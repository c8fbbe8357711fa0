use Rattle.laws_looks.proofs.Stirred.{one_look_settles}
use Rattle.laws_looks.proofs.laws.one_look_settles.Goals as goal

pub returns : goal.returns
returns g c = one_look_settles c.again_laws.ensures
