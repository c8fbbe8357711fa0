use Rattle.dill_scope.proofs.Taking.{take_cancels}
use Rattle.dill_scope.proofs.laws.take_cancels_only_inside.Goals as goal

pub returns : goal.returns
returns c = take_cancels
