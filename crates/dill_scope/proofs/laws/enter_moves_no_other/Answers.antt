use Rattle.dill_scope.proofs.Growing.{enter_moves_no_other}
use Rattle.dill_scope.proofs.laws.enter_moves_no_other.Goals as goal

pub returns : goal.returns
returns c = enter_moves_no_other
