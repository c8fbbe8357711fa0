use Rattle.dill_base.specs.declared.status.Status.TheVariants.{Stuck, Sink}
use Rattle.dill_drive.specs.Story.{Stopping}
use Rattle.dill_drive.proofs.Turning.{stuck_written, stuck_cut}
use Rattle.dill_drive.proofs.progress.Progress.stop_stuck.Goals as goal

pub returns-in-Ok-clause-leads : goal.returns-in-Ok-clause-leads
returns-in-Ok-clause-leads g c =
    let s = c.args.self.now in
    λ most keys. stuck_written g.M.Stepper.means c.args.traced most _ s.core s.tally keys _ _ _ c.in-Ok.ensures.ok (c.stop.ensures.leads most Stopping Stuck keys)

pub returns-in-Err-clause-leads : goal.returns-in-Err-clause-leads
returns-in-Err-clause-leads g c =
    let s = c.args.self.now in
    λ most keys. stuck_cut g.M.Stepper.means c.args.traced most _ s.core s.tally keys _ _ _ c.in-Err.ensures.err (c.stop-in-Err.ensures.leads most Stopping Sink keys)
