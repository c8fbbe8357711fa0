use Rattle.dill_drive.proofs.Trying.{hears}
use Rattle.dill_drive.proofs.progress.Progress.read.Goals as goal

pub returns-clause-hears : goal.returns-clause-hears
returns-clause-hears g c = hears g.M.Stepper.means g.K.Kernel.step g.K.Kernel.faults _ _ c.args.self.now c.hear.new.self _ _ _ _ _ c.requires.due c.came.ensures c.read-flow.ensures.allowed c.read-flow.ensures.step c.read-flow.ensures.cause c.hear.ensures.heard
