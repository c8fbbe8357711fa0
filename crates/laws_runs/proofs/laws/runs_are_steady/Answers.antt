use Rattle.laws_runs.proofs.Steadying.{runs_are_steady}
use Rattle.laws_runs.proofs.laws.runs_are_steady.Goals as goal

pub returns : goal.returns
returns g c = runs_are_steady g.B.Body.means c.follows_linkless.ensures c.debts_fall.ensures
