use Rattle.std.proofs.Common.{◌∙◌}
use Rattle.dill_drive.specs.Asks.{Counted}
use Rattle.dill_drive.proofs.Flowing.{on_err}
use Rattle.dill_drive.proofs.Running.{runs_trans}
use Rattle.dill_drive.proofs.Trying.{keeps_trans}
use Rattle.dill_drive.proofs.progress.Progress.tries.Goals as goal

pub returns-in_err-one_try-clause-err : goal.returns-in_err-one_try-clause-err
returns-in_err-one_try-clause-err g c =
    on_err c.from_residual.result (λ most place is. runs_trans g.M.Stepper.means (Counted g.K.Kernel.step g.K.Kernel.faults) c.args.traced most _ _ _ _ _ _ _ _ _ (c.loop-ask.invariant.runs most place is) (c.in_err-one_try.ensures.err most place is))

pub loop-ask-preserved : goal.loop-ask-preserved
loop-ask-preserved g c = record {
  runs = λ most place is. runs_trans g.M.Stepper.means (Counted g.K.Kernel.step g.K.Kernel.faults) c.args.traced most _ _ _ _ _ _ _ _ _ (c.loop-ask.invariant.runs most place is) (c.in_ok-one_try.ensures.ok most place is);
  counts = keeps_trans _ _ _ c.loop-ask.invariant.counts c.one_try.ensures.counts;
  count = c.in_ok-one_try.ensures.cause.kept ∙ c.loop-ask.invariant.count;
}
