use Rattle.dill_scope.proofs.Growing.{bundle_keeps}
use Rattle.dill_scope.proofs.laws.bundle_keeps_the_forest.Goals as goal

pub returns : goal.returns
returns c = bundle_keeps
