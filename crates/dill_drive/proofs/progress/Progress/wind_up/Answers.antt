use Rattle.dill_drive.specs.Asks.{Counted}
use Rattle.dill_drive.specs.Progress.{StopsRounds}
use Rattle.dill_drive.proofs.Running.{at_place}
use Rattle.dill_drive.proofs.Statuses.{stop_of}
use Rattle.dill_drive.proofs.progress.Progress.wind_up.Goals as goal

pub returns-in-Well-clause-runs : goal.returns-in-Well-clause-runs
returns-in-Well-clause-runs g c = rw c.in-Well.is c.end_well.ensures.runs

pub returns-clause-runs : goal.returns-clause-runs
returns-clause-runs g c =
    let s = c.args.self.now in
    let is : StopsRounds c.args.stop = stop_of c.args.stop c.requires.stop c.in_default.not-Well in
    λ most. at_place g.M.Stepper.means (Counted g.K.Kernel.step g.K.Kernel.faults) c.args.traced most _ _ s.core _ s.tally (g.R.Rng.stream c.args.keys.now) _ _ c.args.stop is (c.close_all.ensures.runs most)
