use Rattle.laws_looks.proofs.Between.{steps_keep_calm}
use Rattle.laws_looks.proofs.laws.steps_keep_calm.Goals as goal

pub returns : goal.returns
returns g c = steps_keep_calm g.B.Body.means c.again_laws.ensures g.met.B.Body.lawful
