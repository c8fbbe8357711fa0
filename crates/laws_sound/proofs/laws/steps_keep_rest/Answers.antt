use Rattle.laws_sound.proofs.Resting.{steps_keep_rest}
use Rattle.laws_sound.proofs.laws.steps_keep_rest.Goals as goal

pub returns : goal.returns
returns g c = steps_keep_rest g.B.Body.means g.met.B.Body.lawful
