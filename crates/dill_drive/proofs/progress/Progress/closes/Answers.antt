use Rattle.dill_drive.specs.Asks.{Counted}
use Rattle.dill_drive.proofs.Running.{runs_trans}
use Rattle.dill_drive.proofs.Statuses.{status_trans, cause_trans}
use Rattle.dill_drive.proofs.Turning.{stays_stopped}
use Rattle.dill_drive.proofs.progress.Progress.closes.Goals as goal

pub loop-ask-preserved : goal.loop-ask-preserved
loop-ask-preserved g c =
    let one = c.one_close-status.ensures in
    let inv = c.loop-ask.invariant in
    record {
      runs = λ most. runs_trans g.M.Stepper.means (Counted g.K.Kernel.step g.K.Kernel.faults) c.args.traced most _ _ _ _ _ _ _ _ _ (inv.runs most) (one.runs most);
      stopped = stays_stopped c.loop-ask.status c.one_close-status.result inv.stopped one.status;
      status = status_trans c.args.stop c.loop-ask.status c.one_close-status.result inv.status one.status;
      cause = cause_trans c.args.stop c.loop-ask.status c.one_close-status.result _ _ _ inv.status one.status inv.cause one.cause;
    }
