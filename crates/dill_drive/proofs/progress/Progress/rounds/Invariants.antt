use Rattle.std.proofs.Common.{◌≡◌, ◌-◌, ◌+◌, ◌≤◌}
use Rattle.dill_base.specs.declared.status.Status.TheVariants.{Well}
use Rattle.dill_drive.specs.Asks.{Counted}
use Rattle.dill_drive.specs.Progress.{stands, Runs}
use Rattle.dill_drive.specs.Story.{Round}
use Rattle.dill_drive.proofs.progress.Progress.rounds.Given as goal

abbrev pub invariant-loop-ready : goal.invariant-loop-ready
invariant-loop-ready g l = record {
  runs : Runs g.M.Stepper.means (Counted g.K.Kernel.step g.K.Kernel.faults) l.fn.kernel l.kernel l.traced l.most (stands l.fn.self Round Well (g.R.Rng.stream l.fn.keys)) (stands l.self Round Well (g.R.Rng.stream l.keys)) (g.W.Sink.told l.fn.out) (g.W.Sink.told l.out);
  closing : l.self.tally.closing ≡ l.fn.self.tally.closing;
  budget : l.self.tally.turns + l.self.tally.rounds ≤ l.most;
  count : g.W.Sink.faults l.out ≡ g.W.Sink.faults l.fn.out;
}

abbrev pub decreases-loop-ready : goal.decreases-loop-ready
decreases-loop-ready g l = l.most - (l.self.tally.turns + l.self.tally.rounds)
