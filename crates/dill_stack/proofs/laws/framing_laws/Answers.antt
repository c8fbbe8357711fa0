use Rattle.dill_stack.proofs.Attachings.{attach_formed, head_offered}
use Rattle.dill_stack.proofs.Spellings.{framing_taken, framing_spelled}
use Rattle.dill_stack.proofs.laws.framing_laws.Goals as goal

pub returns : goal.returns
returns c = record {
  offered = head_offered;
  formed = attach_formed;
  taken = framing_taken;
  spelled = framing_spelled c.prefix_laws.ensures c.suffix_laws.ensures;
}
