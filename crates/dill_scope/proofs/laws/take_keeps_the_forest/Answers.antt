use Rattle.dill_scope.proofs.Taking.{take_keeps}
use Rattle.dill_scope.proofs.laws.take_keeps_the_forest.Goals as goal

pub returns : goal.returns
returns c = take_keeps
