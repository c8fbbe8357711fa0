use Rattle.dill_scope.proofs.Taking.{bad_taking}
use Rattle.dill_scope.proofs.laws.an_insider_may_not_take.Goals as goal

pub returns : goal.returns
returns c = bad_taking
