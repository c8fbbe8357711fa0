use Rattle.laws_runs.proofs.Going.{bundles_go_empty}
use Rattle.laws_runs.proofs.laws.bundles_go_empty.Goals as goal

pub returns : goal.returns
returns g c = bundles_go_empty g.B.Body.means c.debts_fall.ensures
