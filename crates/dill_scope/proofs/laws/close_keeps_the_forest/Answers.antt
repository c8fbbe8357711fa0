use Rattle.dill_scope.proofs.Shutting.{close_keeps}
use Rattle.dill_scope.proofs.laws.close_keeps_the_forest.Goals as goal

pub returns : goal.returns
returns c = close_keeps
