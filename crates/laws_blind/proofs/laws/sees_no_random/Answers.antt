use Rattle.laws_blind.proofs.Hearing.{sees_no_random}
use Rattle.laws_blind.proofs.laws.sees_no_random.Goals as goal

pub returns : goal.returns
returns g c = sees_no_random g.B.Body.means
