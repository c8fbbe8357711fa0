use Rattle.std.proofs.Common.{◌≡◌, ◌⊎◌, ℕ, false}
use Rattle.dill_base.specs.declared.status.Status.TheVariants.{Sink}
use Rattle.dill_kernel.specs.Entry.{ReplyHasCause}
use Rattle.dill_drive.specs.Asks.{Counted}
use Rattle.dill_drive.specs.Progress.{stands, Runs, fails_now}
use Rattle.dill_drive.specs.Story.{Closes, is_well}
use Rattle.dill_drive.proofs.progress.Progress.closes.Given as goal

abbrev pub invariant-loop-ask : goal.invariant-loop-ask
invariant-loop-ask g l = record {
  runs : (most : ℕ) → Runs g.M.Stepper.means (Counted g.K.Kernel.step g.K.Kernel.faults) l.fn.kernel l.kernel l.traced most (stands l.fn.self Closes l.fn.stop (g.R.Rng.stream l.fn.keys)) (stands l.self Closes l.status (g.R.Rng.stream l.keys)) (g.W.Sink.told l.fn.out) (g.W.Sink.told l.out);
  stopped : is_well l.status ≡ false;
  status : (l.status ≡ l.fn.stop) ⊎ (l.status ≡ Sink);
  cause : ReplyHasCause (g.W.Sink.faults l.fn.out) (g.W.Sink.faults l.out) (fails_now l.fn.stop l.status);
}

abbrev pub decreases-loop-ask : goal.decreases-loop-ask
decreases-loop-ask g l = g.M.Stepper.tries l.self.core
