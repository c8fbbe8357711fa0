use Rattle.dill_drive.specs.ByRules.{machine_of}
use Rattle.dill_drive.proofs.Ends as ends
use Rattle.dill_drive.proofs.laws.one_end.Goals as goal

pub returns : goal.returns
returns g c = λ traced most. ends.one_end (machine_of g.B.Body.means) traced most
