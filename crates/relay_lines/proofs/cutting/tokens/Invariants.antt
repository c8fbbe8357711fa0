use Rattle.std.proofs.Common.{◌≡◌, length}
use Rattle.dill_script.specs.Tokens.{tokens_from, Between}
use Rattle.relay_lines.specs.Prefixes.{all_before}
use Rattle.relay_lines.proofs.cutting.tokens.Given as goal

abbrev pub invariant-loop-bytes : goal.invariant-loop-bytes
invariant-loop-bytes l = all_before l.tokens (tokens_from Between l.rest) ≡ tokens_from Between l.line

abbrev pub decreases-loop-bytes : goal.decreases-loop-bytes
decreases-loop-bytes l = length l.rest
