use Rattle.dill_stack.proofs.LineReads.{line_read_laws}
use Rattle.dill_stack.proofs.laws.line_laws.Goals as goal

pub returns : goal.returns
returns c = line_read_laws c.http_laws.ensures.lines c.http_laws.ensures.heads
