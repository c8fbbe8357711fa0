use Rattle.std.proofs.Common.{◌∙◌, sym, ap}
use Rattle.relay_lines.specs.Prefixes.{all_before}
use Rattle.relay_lines.proofs.Joins.{too_few}
use Rattle.relay_lines.proofs.operands.operands_of.Goals as goal

pub returns-in_default : goal.returns-in_default
returns-in_default c = sym (ap (all_before c.loop-kind.operands) (too_few c.args.kinds.now c.loop-kind.kind-index c.args.rest c.loop-kind.tokens.now c.loop-kind-test.true c.in_default.ensures.cases)) ∙ c.loop-kind.invariant
