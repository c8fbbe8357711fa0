use Rattle.std.proofs.Common.{◌≡◌, ◌⊎◌, ◌+◌, ◌≤◌, ◌^◌, ℕ, []}
use Rattle.dill_base.specs.declared.status.Status.TheVariants.{Sink}
use Rattle.dill_kernel.specs.Entry.{ReplyHasCause}
use Rattle.dill_drive.specs.Progress.{stands, fails_now}
use Rattle.dill_drive.specs.Story.{Closing}
use Rattle.dill_drive.specs.Leading.{Leads}
use Rattle.dill_drive.proofs.progress.Progress.close.Given as goal

abbrev pub invariant-loop-self : goal.invariant-loop-self
invariant-loop-self g l = record {
  leads : (most : ℕ) → Leads g.M.Stepper.means l.traced most (stands l.fn.self Closing l.fn.stop (g.R.Rng.stream l.fn.keys)) (stands l.self Closing l.status (g.R.Rng.stream l.keys)) [] (g.W.Sink.told l.fn.out) (g.W.Sink.told l.out);
  status : (l.status ≡ l.fn.stop) ⊎ (l.status ≡ Sink);
  root : g.M.Stepper.closed l.self.core;
  debt : l.self.tally.closing + g.M.Stepper.owed l.self.core ≤ 2 ^ 48;
  cause : ReplyHasCause (g.W.Sink.faults l.fn.out) (g.W.Sink.faults l.out) (fails_now l.fn.stop l.status);
}

abbrev pub decreases-loop-self : goal.decreases-loop-self
decreases-loop-self g l = g.M.Stepper.owed l.self.core
