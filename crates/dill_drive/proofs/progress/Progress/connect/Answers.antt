use Rattle.dill_drive.proofs.Trying.{hears, plain_cause}
use Rattle.dill_drive.proofs.progress.Progress.connect.Goals as goal

pub returns-clause-hears : goal.returns-clause-hears
returns-clause-hears g c = hears g.M.Stepper.means g.K.Kernel.step g.K.Kernel.faults _ _ c.args.self.now c.hear.new.self _ _ _ _ _ c.requires.due c.plain-reply.ensures c.connect.ensures.allowed c.connect.ensures.step (plain_cause _ _ c.connect.result c.connect.ensures.cause) c.hear.ensures.heard
