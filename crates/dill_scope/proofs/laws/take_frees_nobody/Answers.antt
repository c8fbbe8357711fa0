use Rattle.dill_scope.proofs.Taking.{take_frees_nobody}
use Rattle.dill_scope.proofs.laws.take_frees_nobody.Goals as goal

pub returns : goal.returns
returns c = take_frees_nobody
