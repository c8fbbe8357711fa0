use Rattle.dill_scope.proofs.Trees.{tree_lists}
use Rattle.dill_scope.proofs.laws.tree_lists_who_is_inside.Goals as goal

pub returns : goal.returns
returns c = tree_lists
