use Rattle.dill_scope.proofs.Growing.{enter_keeps}
use Rattle.dill_scope.proofs.laws.enter_keeps_the_forest.Goals as goal

pub returns : goal.returns
returns c = enter_keeps
