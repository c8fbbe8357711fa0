use Rattle.laws_debt.proofs.Debting.{debts_fall}
use Rattle.laws_sound.proofs.Built.{makes_linkless}
use Rattle.laws_debt.proofs.laws.debts_fall.Goals as goal

pub returns : goal.returns
returns g c = debts_fall g.B.Body.means g.met.B.Body.lawful (makes_linkless g.B.Body.means g.met.B.PlainBody.plain)
