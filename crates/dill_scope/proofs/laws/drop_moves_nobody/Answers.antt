use Rattle.dill_scope.proofs.Leaving.{drop_moves_nobody}
use Rattle.dill_scope.proofs.laws.drop_moves_nobody.Goals as goal

pub returns : goal.returns
returns c = drop_moves_nobody
