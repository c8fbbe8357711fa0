use Rattle.dill_stack.proofs.MessageReads.{message_gives, message_given, message_ends, message_refuses}
use Rattle.dill_stack.proofs.MessageTold.{message_ended, message_refused, message_cut, message_needs}
use Rattle.dill_stack.proofs.MessageWaits.{message_waits, message_cuts, message_over}
use Rattle.dill_stack.proofs.laws.message_laws.Goals as goal

pub returns : goal.returns
returns c = record {
  gives = message_gives c.prefix_laws.ensures c.suffix_laws.ensures;
  given = message_given c.prefix_laws.ensures c.suffix_laws.ensures;
  ends = message_ends c.prefix_laws.ensures c.suffix_laws.ensures;
  over = message_over;
  ended = message_ended c.prefix_laws.ensures c.suffix_laws.ensures;
  refuses = message_refuses c.prefix_laws.ensures c.suffix_laws.ensures;
  refused = message_refused c.prefix_laws.ensures c.suffix_laws.ensures;
  cuts = message_cuts c.prefix_laws.ensures c.suffix_laws.ensures;
  cut = message_cut c.prefix_laws.ensures c.suffix_laws.ensures;
  waits = message_waits c.prefix_laws.ensures c.suffix_laws.ensures;
  needs = message_needs c.prefix_laws.ensures c.suffix_laws.ensures;
}
