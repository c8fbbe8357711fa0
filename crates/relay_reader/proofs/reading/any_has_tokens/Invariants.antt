use Rattle.std.proofs.Common.{◌≡◌, length}
use Rattle.std.specs.List.{list_any}
use Rattle.dill_script.specs.Lines.{lines_of, has_tokens}
use Rattle.relay_reader.proofs.reading.any_has_tokens.Given as goal

abbrev pub invariant-loop-rest : goal.invariant-loop-rest
invariant-loop-rest l = list_any has_tokens (lines_of l.bytes) ≡ list_any has_tokens (lines_of l.rest)

abbrev pub decreases-loop-rest : goal.decreases-loop-rest
decreases-loop-rest l = length l.rest
