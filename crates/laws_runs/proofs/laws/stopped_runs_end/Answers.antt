use Rattle.laws_runs.proofs.Ending.{stopped_runs_end}
use Rattle.laws_runs.proofs.laws.stopped_runs_end.Goals as goal

pub returns : goal.returns
returns g c = stopped_runs_end g.B.Body.means c.follows_linkless.ensures c.root_debt_falls.ensures
