use Rattle.std.proofs.Common.{◌≡◌, ◌+◌, drop}
use Rattle.dill_world.specs.Gathering.{spot}
use Rattle.dill_world.proofs.ending.spot.Given as goal

abbrev pub invariant-loop-i : goal.invariant-loop-i
invariant-loop-i l = l.i + spot l.number (drop l.i l.closings) ≡ spot l.number l.closings
