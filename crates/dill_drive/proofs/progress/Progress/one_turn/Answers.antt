use Rattle.dill_drive.proofs.Turning.{turn_written, turn_cut, Made}
use Rattle.dill_drive.proofs.progress.Progress.one_turn.Goals as goal

pub returns-in-Ok-clause-ok : goal.returns-in-Ok-clause-ok
returns-in-Ok-clause-ok g c =
    let m = g.M.Stepper.means in
    let v = c.args.self.now.core in
    let w = c.turn-ran.new.self in
    let made : Made m v w c.turn-ran.result c.notes.result.now (g.R.Rng.stream c.args.keys.now) (g.R.Rng.stream c.turn-ran.new.keys) =
    record { may = c.turn-ran.ensures.allowed; ran = c.turn-ran.ensures.ran; after = c.turn-ran.ensures.after; random = c.turn-ran.ensures.random; notes = c.notes.ensures } in
    λ most left. turn_written m c.args.traced most v w c.turn-ran.result c.notes.result.now left c.args.self.now.tally c.turn-self.result _ _ _ _ made c.turn-self.ensures c.in-Ok.ensures.ok

pub returns-clause-err : goal.returns-clause-err
returns-clause-err g c =
    let m = g.M.Stepper.means in
    let v = c.args.self.now.core in
    let w = c.turn-ran.new.self in
    let made : Made m v w c.turn-ran.result c.notes.result.now (g.R.Rng.stream c.args.keys.now) (g.R.Rng.stream c.turn-ran.new.keys) =
    record { may = c.turn-ran.ensures.allowed; ran = c.turn-ran.ensures.ran; after = c.turn-ran.ensures.after; random = c.turn-ran.ensures.random; notes = c.notes.ensures } in
    λ most left. turn_cut m c.args.traced most v w c.shut.new.self c.turn-ran.result c.notes.result.now left c.args.self.now.tally c.turn-self.result _ _ _ _ made c.turn-self.ensures c.shut.ensures.after c.in-Err.ensures.err
