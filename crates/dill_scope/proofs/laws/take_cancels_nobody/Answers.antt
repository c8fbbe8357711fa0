use Rattle.dill_scope.proofs.Taking.{take_cancels_nobody}
use Rattle.dill_scope.proofs.laws.take_cancels_nobody.Goals as goal

pub returns : goal.returns
returns c = take_cancels_nobody
