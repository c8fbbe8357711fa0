use Rattle.dill_scope.proofs.Leaving.{ended_moves_no_other}
use Rattle.dill_scope.proofs.laws.ended_moves_no_other.Goals as goal

pub returns : goal.returns
returns c = ended_moves_no_other
