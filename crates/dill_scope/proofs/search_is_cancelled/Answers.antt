use Rattle.dill_scope.proofs.Chains.{search_is_cancelled}
use Rattle.dill_scope.proofs.search_is_cancelled.Goals as goal

pub returns : goal.returns
returns c = search_is_cancelled
