use Rattle.std.proofs.Common.{◌≡◌, length}
use Rattle.dill_drive.proofs.Rising.{Behind, above}
use Rattle.dill_drive.specs.Waiting.{Rises}
use Rattle.dill_drive.proofs.lines.write_waiters.Given as goal

abbrev pub invariant-loop-who : goal.invariant-loop-who
invariant-loop-who g l = record {
  behind : (Rises 0 (g.M.Stepper.means.waiting l.core)) → Behind (g.M.Stepper.means.waiting l.core) l.after (g.W.Sink.told l.fn.out) (g.W.Sink.told l.out);
  count : g.W.Sink.faults l.out ≡ g.W.Sink.faults l.fn.out;
}

abbrev pub decreases-loop-who : goal.decreases-loop-who
decreases-loop-who g l = length (above l.after (g.M.Stepper.means.waiting l.core))
