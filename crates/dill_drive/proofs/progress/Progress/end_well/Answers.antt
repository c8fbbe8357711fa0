use Rattle.dill_drive.specs.Asks.{Counted}
use Rattle.dill_drive.specs.Story.{Closes}
use Rattle.dill_drive.proofs.Running.{runs_trans, ends_well}
use Rattle.dill_drive.proofs.Statuses.{cause_sunk, cause_err, sunk}
use Rattle.dill_drive.proofs.progress.Progress.end_well.Goals as goal

pub returns-in-Ok-clause-runs : goal.returns-in-Ok-clause-runs
returns-in-Ok-clause-runs g c =
    let s = c.args.self.now in
    λ most. ends_well g.M.Stepper.means (Counted g.K.Kernel.step g.K.Kernel.faults) c.args.traced most c.args.kernel.now _ s.core _ s.tally (g.R.Rng.stream c.args.keys.now) _ _ c.requires.ended (c.in-Ok.ensures.ok most Closes tt)

pub returns-in-Err-clause-runs : goal.returns-in-Err-clause-runs
returns-in-Err-clause-runs g c =
    let s = c.args.self.now in
    λ most. runs_trans g.M.Stepper.means (Counted g.K.Kernel.step g.K.Kernel.faults) c.args.traced most _ _ _ _ _ _ _ _ _ (ends_well g.M.Stepper.means (Counted g.K.Kernel.step g.K.Kernel.faults) c.args.traced most c.args.kernel.now _ s.core _ s.tally (g.R.Rng.stream c.args.keys.now) _ _ c.requires.ended (c.in-Err.ensures.err most Closes tt)) (c.close_all.ensures.runs most)

pub returns-in-Err-clause-status : goal.returns-in-Err-clause-status
returns-in-Err-clause-status g c = sunk c.close_all.result c.close_all.ensures.status

pub returns-in-Err-clause-cause : goal.returns-in-Err-clause-cause
returns-in-Err-clause-cause g c = cause_sunk c.close_all.result _ _ _ c.close_all.ensures.status (cause_err _ _ _ c.in-Err.ensures.cause) c.close_all.ensures.cause
