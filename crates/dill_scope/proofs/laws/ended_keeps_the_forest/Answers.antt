use Rattle.dill_scope.proofs.Leaving.{ended_keeps}
use Rattle.dill_scope.proofs.laws.ended_keeps_the_forest.Goals as goal

pub returns : goal.returns
returns c = ended_keeps
