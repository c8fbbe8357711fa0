use Rattle.std.proofs.Common.{inl, inr, refl, ap}
use Rattle.dill_drive.specs.declared.tally.Tally.{Tally}
use Rattle.dill_drive.proofs.Statuses.{cause_ok, cause_err, fails_same, fails_as, not_sink}
use Rattle.dill_drive.proofs.Turning.{last_written, last_cut, last_silent, Made}
use Rattle.dill_drive.proofs.progress.Progress.last_turn.Goals as goal

pub returns-in-Sink-clause-leads : goal.returns-in-Sink-clause-leads
returns-in-Sink-clause-leads g c =
    let m = g.M.Stepper.means in
    let v = c.args.self.now.core in
    let w = c.turn-ran.new.self in
    let made : Made m v w c.turn-ran.result (m.notes w) (g.R.Rng.stream c.args.keys.now) (g.R.Rng.stream c.turn-ran.new.keys) =
    record { may = c.turn-ran.ensures.allowed; ran = c.turn-ran.ensures.ran; after = c.turn-ran.ensures.after; random = c.turn-ran.ensures.random; notes = refl } in
    rw c.in-Sink.is (λ most. last_silent m c.args.traced most v w c.turn-ran.result (m.notes w) c.args.self.now.tally c.last_turn-self.result _ _ _ made c.last_turn-self.ensures)

pub returns-in-Ok : goal.returns-in-Ok
returns-in-Ok g c =
    let m = g.M.Stepper.means in
    let v = c.args.self.now.core in
    let w = c.turn-ran.new.self in
    let made : Made m v w c.turn-ran.result c.notes.result.now (g.R.Rng.stream c.args.keys.now) (g.R.Rng.stream c.turn-ran.new.keys) =
    record { may = c.turn-ran.ensures.allowed; ran = c.turn-ran.ensures.ran; after = c.turn-ran.ensures.after; random = c.turn-ran.ensures.random; notes = c.notes.ensures } in
    record {
      leads = λ most. last_written m c.args.traced most v w c.turn-ran.result c.notes.result.now c.args.status c.args.self.now.tally c.last_turn-self.result _ _ _ _ made c.last_turn-self.ensures c.in_default.not-Sink c.in-Ok.ensures.ok;
      status = inl refl;
      closed = c.turn-ran.ensures.closed c.requires.closed;
      fewer = c.turn-ran.ensures.fewer c.requires.closed;
      counts = ap (λ (t : Tally). t.closing) c.last_turn-self.ensures;
      cause = rw (fails_same c.args.status) (cause_ok _ _ _ c.in-Ok.ensures.cause);
    }

pub returns : goal.returns
returns g c =
    let m = g.M.Stepper.means in
    let v = c.args.self.now.core in
    let w = c.turn-ran.new.self in
    let made : Made m v w c.turn-ran.result c.notes.result.now (g.R.Rng.stream c.args.keys.now) (g.R.Rng.stream c.turn-ran.new.keys) =
    record { may = c.turn-ran.ensures.allowed; ran = c.turn-ran.ensures.ran; after = c.turn-ran.ensures.after; random = c.turn-ran.ensures.random; notes = c.notes.ensures } in
    record {
      leads = λ most. last_cut m c.args.traced most v w c.turn-ran.result c.notes.result.now c.args.status c.args.self.now.tally c.last_turn-self.result _ _ _ _ made c.last_turn-self.ensures c.in_default.not-Sink c.requires.stopped c.in-Err.ensures.err;
      status = inr refl;
      closed = c.turn-ran.ensures.closed c.requires.closed;
      fewer = c.turn-ran.ensures.fewer c.requires.closed;
      counts = ap (λ (t : Tally). t.closing) c.last_turn-self.ensures;
      cause = rw (fails_as c.args.status _ (not_sink c.args.status c.in_default.not-Sink)) (cause_err _ _ _ c.in-Err.ensures.cause);
    }
