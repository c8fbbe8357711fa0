use Rattle.laws_sound.proofs.LinklessLaws.{follows_linkless}
use Rattle.laws_sound.proofs.Built.{makes_linkless}
use Rattle.laws_sound.proofs.laws.follows_linkless.Goals as goal

pub returns : goal.returns
returns g c = follows_linkless g.B.Body.means g.met.B.Body.lawful (makes_linkless g.B.Body.means g.met.B.PlainBody.plain)
