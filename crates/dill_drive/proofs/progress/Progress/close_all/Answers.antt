use Rattle.dill_drive.specs.Asks.{Counted}
use Rattle.dill_drive.proofs.Running.{runs_closing}
use Rattle.dill_drive.proofs.Statuses.{status_trans, cause_trans}
use Rattle.dill_drive.proofs.Turning.{stays_stopped}
use Rattle.dill_drive.proofs.progress.Progress.close_all.Goals as goal

pub closes-requires : goal.closes-requires
closes-requires g c = record { stopped = stays_stopped c.args.stop c.close-last.result c.requires.stopped c.close-last.ensures.status }

pub returns-clause-runs : goal.returns-clause-runs
returns-clause-runs g c =
    let p = c.close-last.new.self in
    λ most. runs_closing g.M.Stepper.means (Counted g.K.Kernel.step g.K.Kernel.faults) _ _ c.args.traced most _ p.core _ p.tally c.close-last.result (g.R.Rng.stream c.close-last.new.keys) _ _ _ c.close-last.ensures.ended (c.close-last.ensures.leads most) (c.closes.ensures.runs most)

pub returns-clause-status : goal.returns-clause-status
returns-clause-status g c = status_trans c.args.stop c.close-last.result c.closes.result c.close-last.ensures.status c.closes.ensures.status

pub returns-clause-cause : goal.returns-clause-cause
returns-clause-cause g c = cause_trans c.args.stop c.close-last.result c.closes.result _ _ _ c.close-last.ensures.status c.closes.ensures.status c.close-last.ensures.cause c.closes.ensures.cause
