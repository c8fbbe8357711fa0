use Rattle.std.proofs.Common.{◌≡◌, length}
use Rattle.dill_script.specs.Operands.{args_of}
use Rattle.relay_lines.specs.Prefixes.{all_before}
use Rattle.relay_lines.proofs.operands.with_args.Given as goal

abbrev pub invariant-loop-rest : goal.invariant-loop-rest
invariant-loop-rest l = all_before l.operands (args_of l.rest) ≡ all_before l.fn.operands (args_of l.tokens)

abbrev pub decreases-loop-rest : goal.decreases-loop-rest
decreases-loop-rest l = length l.rest
