use Rattle.std.proofs.Common.{◌∙◌}
use Rattle.relay_lines.proofs.Splits.{address_at}
use Rattle.relay_lines.proofs.address.address_of.Goals as goal

pub returns : goal.returns
returns c = c.address_from.ensures ∙ address_at c.args.word.now c.in_ok-ip.ip.now c.in_ok-ip.port.now c.in_ok-ip.ensures
