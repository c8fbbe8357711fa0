use Rattle.dill_scope.proofs.Chains.{search_is_inside}
use Rattle.dill_scope.proofs.search_is_inside.Goals as goal

pub returns : goal.returns
returns c = search_is_inside
