use Rattle.std.proofs.Common.{◌≡◌, ◌≤◌, length}
use Rattle.dill_ws.specs.HeadLines.{lines_at}
use Rattle.dill_ws.specs.Offers.{named}
use Rattle.dill_ws.proofs.fields.next_field.Given as goal

abbrev pub decreases-loop-line : goal.decreases-loop-line
decreases-loop-line l = length l.rest

abbrev pub invariant-loop-line : goal.invariant-loop-line
invariant-loop-line l = record { same : named l.name (lines_at l.lines) ≡ named l.name (lines_at l.rest); shorter : length l.rest ≤ length l.lines }
