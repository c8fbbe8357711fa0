use Rattle.dill_drive.proofs.Trying.{hears}
use Rattle.dill_drive.proofs.progress.Progress.finish_connect.Goals as goal

pub returns-clause-hears : goal.returns-clause-hears
returns-clause-hears g c = hears g.M.Stepper.means g.K.Kernel.step g.K.Kernel.faults _ _ c.args.self.now c.hear.new.self _ _ _ _ _ c.requires.due c.finished-reply.ensures c.finish_connect.ensures.allowed c.finish_connect.ensures.step c.finish_connect.ensures.cause c.hear.ensures.heard
