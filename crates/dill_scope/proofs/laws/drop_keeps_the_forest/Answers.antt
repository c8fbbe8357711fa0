use Rattle.dill_scope.proofs.Leaving.{drop_keeps}
use Rattle.dill_scope.proofs.laws.drop_keeps_the_forest.Goals as goal

pub returns : goal.returns
returns c = drop_keeps
