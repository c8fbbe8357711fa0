use Rattle.dill_scope.proofs.Shutting.{close_cancels}
use Rattle.dill_scope.proofs.laws.close_cancels_who_is_inside.Goals as goal

pub returns : goal.returns
returns c = close_cancels
