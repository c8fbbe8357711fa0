use Rattle.std.proofs.Common.{◌≡◌, drop}
use Rattle.dill_script.specs.Reading.{started}
use Rattle.relay_reader.proofs.starts.started.Given as goal

abbrev pub invariant-loop-i : goal.invariant-loop-i
invariant-loop-i l = started l.operands ≡ started (drop l.i l.operands)
