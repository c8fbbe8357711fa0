use Rattle.dill_stack.proofs.TermFrameDrops.{term_frame_drop_laws}
use Rattle.dill_stack.proofs.laws.term_frame_drop_laws.Goals as goal

pub returns : goal.returns
returns c = term_frame_drop_laws c.prefix_laws.ensures c.suffix_laws.ensures c.http_laws.ensures.lines c.frame_laws.ensures c.front_laws.ensures
