use Rattle.laws_sound.proofs.LinklessLaws.{steps_keep_linkless}
use Rattle.laws_sound.proofs.Built.{makes_linkless}
use Rattle.laws_sound.proofs.laws.steps_keep_linkless.Goals as goal

pub returns : goal.returns
returns g c = steps_keep_linkless g.B.Body.means g.met.B.Body.lawful (makes_linkless g.B.Body.means g.met.B.PlainBody.plain)
