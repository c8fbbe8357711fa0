use Rattle.std.proofs.Common.{◌≡◌, drop}
use Rattle.dill_script.specs.Operands.{operands_of}
use Rattle.relay_lines.specs.Prefixes.{all_before}
use Rattle.relay_lines.proofs.operands.operands_of.Given as goal

abbrev pub invariant-loop-kind : goal.invariant-loop-kind
invariant-loop-kind l = all_before l.operands (operands_of (drop l.kind-index l.kinds) l.rest l.tokens) ≡ operands_of l.kinds l.rest l.fn.tokens
