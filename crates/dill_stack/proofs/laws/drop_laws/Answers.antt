use Rattle.dill_stack.proofs.DropTold.{drop_laws}
use Rattle.dill_stack.proofs.laws.drop_laws.Goals as goal

pub returns : goal.returns
returns c = drop_laws c.prefix_laws.ensures c.suffix_laws.ensures c.message_laws.ensures c.http_laws.ensures.lines
