use Rattle.dill_scope.proofs.Shutting.{close_moves_nobody}
use Rattle.dill_scope.proofs.laws.close_moves_nobody.Goals as goal

pub returns : goal.returns
returns c = close_moves_nobody
