use Rattle.dill_scope.proofs.Growing.{open_keeps}
use Rattle.dill_scope.proofs.laws.open_keeps_the_forest.Goals as goal

pub returns : goal.returns
returns c = open_keeps
