use Rattle.std.proofs.Common.{◌∙◌, refl}
use Rattle.dill_drive.specs.Asks.{Counted}
use Rattle.dill_drive.proofs.Running.{runs_none, runs_trans, runs_later, at_stop, rose_after}
use Rattle.dill_drive.proofs.progress.Progress.rounds.Goals as goal

pub loop-ready-init : goal.loop-ready-init
loop-ready-init g c = record {
  runs = runs_none g.M.Stepper.means (Counted g.K.Kernel.step g.K.Kernel.faults) c.args.traced c.args.most _ _ _;
  closing = refl;
  budget = c.requires.budget;
  count = refl;
}

pub returns-in-Some-clause-runs : goal.returns-in-Some-clause-runs
returns-in-Some-clause-runs g c =
    let e = c.one_round.new.self in
    let keys = g.R.Rng.stream c.one_round.new.keys in
    at_stop g.M.Stepper.means (Counted g.K.Kernel.step g.K.Kernel.faults) _ _ c.args.traced c.args.most _ e.core e.tally keys _ _ c.in-Some.stop c.in-Some.ensures.stop
    (runs_trans g.M.Stepper.means (Counted g.K.Kernel.step g.K.Kernel.faults) c.args.traced c.args.most _ _ _ _ _ _ _ _ _ c.loop-ready.invariant.runs c.in-Some.ensures.some)

pub returns-in-Some-clause-wait : goal.returns-in-Some-clause-wait
returns-in-Some-clause-wait g c = λ failed. rose_after _ _ _ (runs_later g.M.Stepper.means g.K.Kernel.step g.K.Kernel.faults _ _ c.args.traced c.args.most _ _ _ _ c.loop-ready.invariant.runs) (c.in-Some.ensures.wait failed)

pub loop-ready-preserved : goal.loop-ready-preserved
loop-ready-preserved g c = record {
  runs = runs_trans g.M.Stepper.means (Counted g.K.Kernel.step g.K.Kernel.faults) c.args.traced c.args.most _ _ _ _ _ _ _ _ _ c.loop-ready.invariant.runs c.in_default.ensures.none;
  closing = c.one_round.ensures.closing ∙ c.loop-ready.invariant.closing;
  budget = c.one_round.ensures.budget;
  count = c.in_default.ensures.cause.kept refl ∙ c.loop-ready.invariant.count;
}
