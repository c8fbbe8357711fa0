use Rattle.dill_stack.proofs.EndReads.{close_read, over_read, met_read}
use Rattle.dill_stack.proofs.EndTold.{end_told}
use Rattle.dill_stack.proofs.laws.ending_laws.Goals as goal

pub returns : goal.returns
returns c = record {
  closes = close_read c.frame_laws.ensures;
  over = over_read c.frame_laws.ensures;
  met = met_read;
  ended = end_told c.frame_laws.ensures;
}
