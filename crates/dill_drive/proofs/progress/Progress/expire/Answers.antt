use Rattle.dill_drive.proofs.Turning.{expire_written, expire_cut}
use Rattle.dill_drive.proofs.progress.Progress.expire.Goals as goal

pub returns-in-Ok-clause-ok : goal.returns-in-Ok-clause-ok
returns-in-Ok-clause-ok g c = λ most keys. expire_written g.M.Stepper.means c.args.traced most c.args.self.now.core c.expire.new.self c.notes.result.now c.args.self.now.tally keys _ _ c.requires.none c.expire.ensures c.notes.ensures c.in-Ok.ensures.ok

pub returns-in-Err-clause-err : goal.returns-in-Err-clause-err
returns-in-Err-clause-err g c =
    λ most keys. expire_cut g.M.Stepper.means c.args.traced most c.args.self.now.core c.expire.new.self c.shut.new.self c.notes.result.now c.args.self.now.tally keys _ _ c.requires.none c.expire.ensures c.notes.ensures c.shut.ensures.after c.in-Err.ensures.err
