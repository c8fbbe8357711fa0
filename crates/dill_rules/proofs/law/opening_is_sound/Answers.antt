use Rattle.dill_rules.proofs.Opening.{opening_is_sound}
use Rattle.dill_rules.proofs.law.opening_is_sound.Goals as goal

pub returns : goal.returns
returns g c = opening_is_sound g.row.B.Denot
