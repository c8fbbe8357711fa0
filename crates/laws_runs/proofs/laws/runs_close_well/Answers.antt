use Rattle.laws_sound.proofs.Built.{makes_linkless}
use Rattle.laws_runs.proofs.Marks.{runs_close_well}
use Rattle.laws_runs.proofs.laws.runs_close_well.Goals as goal

pub returns : goal.returns
returns g c = runs_close_well g.B.Body.means g.met.B.Body.lawful (makes_linkless g.B.Body.means g.met.B.PlainBody.plain) c.steps_keep_well.ensures c.steps_keep_order.ensures c.steps_keep_stable.ensures c.follows_linkless.ensures c.debts_fall.ensures
