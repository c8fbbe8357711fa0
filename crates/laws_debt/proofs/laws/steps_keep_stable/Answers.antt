use Rattle.laws_debt.proofs.Rooting.{steps_keep_stable}
use Rattle.laws_sound.proofs.Built.{makes_linkless}
use Rattle.laws_debt.proofs.laws.steps_keep_stable.Goals as goal

pub returns : goal.returns
returns g c = steps_keep_stable g.B.Body.means g.met.B.Body.lawful (makes_linkless g.B.Body.means g.met.B.PlainBody.plain)
