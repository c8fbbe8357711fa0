use Rattle.laws_sound.proofs.Calming.{steps_keep_settled}
use Rattle.laws_sound.proofs.Built.{makes_linkless}
use Rattle.laws_sound.proofs.laws.steps_keep_settled.Goals as goal

pub returns : goal.returns
returns g c = steps_keep_settled g.B.Body.means g.met.B.Body.lawful (makes_linkless g.B.Body.means g.met.B.PlainBody.plain)
