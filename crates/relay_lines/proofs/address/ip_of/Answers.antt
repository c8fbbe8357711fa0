use Rattle.std.proofs.Common.{◌∙◌}
use Rattle.relay_lines.proofs.Splits.{ip_four}
use Rattle.relay_lines.proofs.address.ip_of.Goals as goal

pub returns : goal.returns
returns c = c.numbers_of.ensures ∙ ip_four c.args.word.now c.in_ok-first.first.now c.in_ok-first.rest.now c.in_ok-second.second.now c.in_ok-second.rest.now c.in_ok-third.third.now c.in_ok-third.fourth.now c.in_ok-first.ensures c.in_ok-second.ensures c.in_ok-third.ensures
