use Rattle.laws_looks.proofs.AtRest.{rest_sees_no_random}
use Rattle.laws_looks.proofs.laws.rest_sees_no_random.Goals as goal

pub returns : goal.returns
returns g c = rest_sees_no_random g.row.B.Denot
