use Rattle.std.proofs.Common.{refl}
use Rattle.dill_drive.proofs.Trying.{hears, quiet_cause}
use Rattle.dill_drive.proofs.progress.Progress.close_link.Goals as goal

pub returns-clause-hears : goal.returns-clause-hears
returns-clause-hears g c = hears g.M.Stepper.means g.K.Kernel.step g.K.Kernel.faults _ _ c.args.self.now c.hear.new.self _ _ _ _ _ c.requires.due refl refl c.close.ensures.step (quiet_cause _ _ c.close.ensures.cause) c.hear.ensures.heard
