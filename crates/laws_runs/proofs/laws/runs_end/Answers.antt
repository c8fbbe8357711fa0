use Rattle.laws_runs.proofs.Ended.{runs_end}
use Rattle.laws_runs.proofs.laws.runs_end.Goals as goal

pub returns : goal.returns
returns g c = runs_end g.B.Body.means c.follows_linkless.ensures c.debts_fall.ensures c.root_debt_falls.ensures
