use Rattle.relay_lines.proofs.Blanks.{starts_from, none_from}
use Rattle.relay_lines.proofs.bytes.first_token.Goals as goal

pub returns-then-begins_token : goal.returns-then-begins_token
returns-then-begins_token c = starts_from c.args.line.now c.blank_length.result c.begins_token.result c.blank_length.ensures.run c.begins_token.ensures c.if-begins_token.true

pub returns-else-begins_token : goal.returns-else-begins_token
returns-else-begins_token c = none_from c.args.line.now c.blank_length.result c.begins_token.result c.blank_length.ensures.run c.begins_token.ensures c.if-begins_token.false
