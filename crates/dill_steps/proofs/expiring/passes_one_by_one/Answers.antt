use Rattle.dill_steps.proofs.Passed.{one_by_one}
use Rattle.dill_steps.proofs.expiring.passes_one_by_one.Goals as goal

pub returns : goal.returns
returns g c = one_by_one
