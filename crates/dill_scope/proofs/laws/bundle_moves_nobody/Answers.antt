use Rattle.dill_scope.proofs.Growing.{bundle_moves_nobody}
use Rattle.dill_scope.proofs.laws.bundle_moves_nobody.Goals as goal

pub returns : goal.returns
returns c = bundle_moves_nobody
