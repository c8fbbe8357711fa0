use Rattle.dill_scope.proofs.Growing.{opening_is_forest}
use Rattle.dill_scope.proofs.laws.opening_is_a_forest.Goals as goal

pub returns : goal.returns
returns c = opening_is_forest
