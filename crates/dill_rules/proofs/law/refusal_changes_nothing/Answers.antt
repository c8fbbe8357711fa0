use Rattle.dill_rules.proofs.Opening.{refusal_changes_nothing}
use Rattle.dill_rules.proofs.law.refusal_changes_nothing.Goals as goal

pub returns : goal.returns
returns g c = refusal_changes_nothing g.row.B.Denot
