use Rattle.laws_runs.proofs.Playing.{closing_is_bounded}
use Rattle.laws_runs.proofs.laws.closing_is_bounded.Goals as goal

pub returns : goal.returns
returns g c = closing_is_bounded g.B.Body.means c.follows_linkless.ensures c.root_debt_falls.ensures
