use Rattle.std.proofs.Common.{◌≡◌, ℕ}
use Rattle.dill_base.specs.declared.status.Status.TheVariants.{Well}
use Rattle.dill_drive.specs.Asks.{Counted}
use Rattle.dill_drive.specs.Progress.{stands, Runs, IsTrying, KeepsTurns}
use Rattle.dill_drive.specs.Story.{Place}
use Rattle.dill_drive.proofs.progress.Progress.tries.Given as goal

abbrev pub invariant-loop-ask : goal.invariant-loop-ask
invariant-loop-ask g l = record {
  runs : (most : ℕ) (place : Place) → IsTrying place → Runs g.M.Stepper.means (Counted g.K.Kernel.step g.K.Kernel.faults) l.fn.kernel l.kernel l.traced most (stands l.fn.self place Well (g.R.Rng.stream l.fn.keys)) (stands l.self place Well (g.R.Rng.stream l.keys)) (g.W.Sink.told l.fn.out) (g.W.Sink.told l.out);
  counts : KeepsTurns l.fn.self.tally l.self.tally;
  count : g.W.Sink.faults l.out ≡ g.W.Sink.faults l.fn.out;
}

abbrev pub decreases-loop-ask : goal.decreases-loop-ask
decreases-loop-ask g l = g.M.Stepper.tries l.self.core
