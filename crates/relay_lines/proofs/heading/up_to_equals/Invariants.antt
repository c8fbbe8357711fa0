use Rattle.std.proofs.Common.{◌≡◌, length}
use Rattle.dill_script.specs.Headings.{up_to_equals}
use Rattle.relay_lines.specs.Targets.{targets_before}
use Rattle.relay_lines.proofs.heading.up_to_equals.Given as goal

abbrev pub invariant-loop-token : goal.invariant-loop-token
invariant-loop-token l = targets_before l.targets (up_to_equals l.rest) ≡ up_to_equals l.tokens

abbrev pub decreases-loop-token : goal.decreases-loop-token
decreases-loop-token l = length l.rest
