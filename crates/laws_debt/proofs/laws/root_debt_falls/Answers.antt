use Rattle.laws_debt.proofs.Rooting.{root_debt_falls}
use Rattle.laws_sound.proofs.Built.{makes_linkless}
use Rattle.laws_debt.proofs.laws.root_debt_falls.Goals as goal

pub returns : goal.returns
returns g c = root_debt_falls g.B.Body.means g.met.B.Body.lawful (makes_linkless g.B.Body.means g.met.B.PlainBody.plain)
