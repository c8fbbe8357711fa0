use Rattle.dill_drive.proofs.Trying.{hears}
use Rattle.dill_drive.proofs.progress.Progress.write.Goals as goal

pub returns-clause-hears : goal.returns-clause-hears
returns-clause-hears g c =
    let fit = rw c.offered.ensures at c.write.ensures.allowed in
    let one = rw c.offered.ensures at c.write.ensures.step in
    hears g.M.Stepper.means g.K.Kernel.step g.K.Kernel.faults _ _ c.args.self.now c.hear.new.self _ _ _ _ _ c.requires.due c.took-reply.ensures fit one c.write.ensures.cause c.hear.ensures.heard
