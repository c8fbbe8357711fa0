use Rattle.std.proofs.Common.{◌≡◌, ◌-◌, []}
use Rattle.dill_base.specs.declared.status.Status.TheVariants.{Well}
use Rattle.dill_drive.specs.Progress.{stands, KeepsBudget}
use Rattle.dill_drive.specs.Story.{Turns}
use Rattle.dill_drive.specs.Leading.{Leads}
use Rattle.dill_drive.proofs.progress.Progress.turns_of_round.Given as goal

abbrev pub invariant-loop-made : goal.invariant-loop-made
invariant-loop-made g l = record {
  leads : Leads g.M.Stepper.means l.traced l.most (stands l.fn.self (Turns 64) Well (g.R.Rng.stream l.fn.keys)) (stands l.self (Turns (64 - l.made)) Well (g.R.Rng.stream l.keys)) [] (g.W.Sink.told l.fn.out) (g.W.Sink.told l.out);
  counts : KeepsBudget l.fn.self.tally l.self.tally l.most;
  count : g.W.Sink.faults l.out ≡ g.W.Sink.faults l.fn.out;
}
