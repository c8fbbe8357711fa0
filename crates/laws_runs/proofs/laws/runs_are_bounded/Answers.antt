use Rattle.laws_sound.proofs.Built.{makes_linkless}
use Rattle.laws_runs.proofs.Running.{runs_are_bounded}
use Rattle.laws_runs.proofs.laws.runs_are_bounded.Goals as goal

pub returns : goal.returns
returns g c = runs_are_bounded g.B.Body.means g.met.B.Body.lawful (makes_linkless g.B.Body.means g.met.B.PlainBody.plain) c.steps_keep_well.ensures c.steps_keep_stable.ensures c.follows_linkless.ensures c.root_debt_falls.ensures
