use Rattle.laws_sound.proofs.Stepping.{steps_keep_order}
use Rattle.laws_sound.proofs.laws.steps_keep_order.Goals as goal

pub returns : goal.returns
returns g c = steps_keep_order g.B.Body.means g.met.B.Body.lawful
