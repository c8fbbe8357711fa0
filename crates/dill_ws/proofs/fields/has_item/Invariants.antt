use Rattle.std.proofs.Common.{◌≡◌, length}
use Rattle.dill_ws.specs.HeadLines.{lines_at}
use Rattle.dill_ws.specs.Offers.{has_item}
use Rattle.dill_ws.proofs.fields.has_item.Given as goal

abbrev pub decreases-loop-field : goal.decreases-loop-field
decreases-loop-field l = length l.rest

abbrev pub invariant-loop-field : goal.invariant-loop-field
invariant-loop-field l = (has_item l.name l.word (lines_at l.lines) ≡ has_item l.name l.word (lines_at l.rest))
