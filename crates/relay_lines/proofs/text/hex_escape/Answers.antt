use Rattle.relay_lines.proofs.Texts.{hex_short}
use Rattle.relay_lines.proofs.text.hex_escape.Goals as goal

pub returns-in_default : goal.returns-in_default
returns-in_default c = hex_short c.args.bytes.now c.in_default.len_below
