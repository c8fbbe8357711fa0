use Rattle.dill_drive.proofs.Trying.{hears, plain_cause}
use Rattle.dill_drive.proofs.progress.Progress.listen.Goals as goal

pub returns-clause-hears : goal.returns-clause-hears
returns-clause-hears g c = hears g.M.Stepper.means g.K.Kernel.step g.K.Kernel.faults _ _ c.args.self.now c.hear.new.self _ _ _ _ _ c.requires.due c.plain-reply.ensures c.listen.ensures.allowed c.listen.ensures.step (plain_cause _ _ c.listen.result c.listen.ensures.cause) c.hear.ensures.heard
