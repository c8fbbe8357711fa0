use Rattle.std.proofs.Common.{◌≡◌, length}
use Rattle.dill_ws.specs.HeadLines.{lines_at}
use Rattle.dill_ws.specs.Offers.{are_fields}
use Rattle.dill_ws.proofs.fields.are_fields.Given as goal

abbrev pub decreases-loop-line : goal.decreases-loop-line
decreases-loop-line l = length l.rest

abbrev pub invariant-loop-line : goal.invariant-loop-line
invariant-loop-line l = (are_fields (lines_at l.lines) ≡ are_fields (lines_at l.rest))
