use Rattle.std.proofs.Common.{◌∙◌, ◌+◌, sym, arith}
use Rattle.relay_lines.proofs.Blanks.{rest_from}
use Rattle.relay_lines.proofs.Splits.{whole, splits_from}
use Rattle.relay_lines.proofs.address.split_at_first.Goals as goal

pub returns-then-length-bytes : goal.returns-then-length-bytes
returns-then-length-bytes c = whole c.args.separator c.args.bytes.now (sym c.part_length-length.ensures.run ∙ c.if-length-bytes.true)

pub returns : goal.returns
returns c = splits_from c.args.separator c.args.bytes.now c.part_length-length.result _ c.part_length-length.ensures.run (omega arith) (rest_from c.args.bytes.now (c.part_length-length.result + 1))
