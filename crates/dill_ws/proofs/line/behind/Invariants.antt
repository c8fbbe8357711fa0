use Rattle.std.proofs.Common.{◌≡◌, length}
use Rattle.dill_ws.specs.HeadLines.{behind}
use Rattle.dill_ws.proofs.line.behind.Given as goal

abbrev pub decreases-loop-line : goal.decreases-loop-line
decreases-loop-line l = length l.rest

abbrev pub invariant-loop-line : goal.invariant-loop-line
invariant-loop-line l = (behind l.bytes ≡ behind l.rest)
