use Rattle.std.proofs.Common.{◌≡◌, ◌++◌, take, drop}
use Rattle.dill_ws.specs.Frames.{masked_from}
use Rattle.dill_ws.proofs.masking.mask.Given as goal

abbrev pub invariant-loop-i : goal.invariant-loop-i
invariant-loop-i l = (masked_from 0 l.key l.initial.bytes ≡ take l.i l.bytes ++ masked_from l.i l.key (drop l.i l.bytes))
