use Rattle.laws_runs.proofs.Waiting.{waiting_is_for_somebody}
use Rattle.laws_runs.proofs.laws.waiting_is_for_somebody.Goals as goal

pub returns : goal.returns
returns g c = waiting_is_for_somebody g.B.Body.means
