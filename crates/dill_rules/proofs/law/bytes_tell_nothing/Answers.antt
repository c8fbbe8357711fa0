use Rattle.dill_rules.proofs.Bare.{bytes_tell_nothing}
use Rattle.dill_rules.proofs.law.bytes_tell_nothing.Goals as goal

pub returns : goal.returns
returns g c = bytes_tell_nothing g.row.B.Denot
