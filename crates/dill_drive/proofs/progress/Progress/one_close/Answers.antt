use Rattle.std.proofs.Common.{inl, inr, refl}
use Rattle.dill_drive.proofs.Statuses.{cause_ok, cause_err, fails_same, fails_as, not_sink}
use Rattle.dill_drive.proofs.Trying.{goes, breaks, silent}
use Rattle.dill_drive.proofs.progress.Progress.one_close.Goals as goal

pub returns-in-Sink-clause-runs : goal.returns-in-Sink-clause-runs
returns-in-Sink-clause-runs g c =
    let m = g.M.Stepper.means in
    let p = c.args.self.now in
    let p' = c.ask.new.self in
    let h = c.ask.ensures.hears in
    rw c.in-Sink.is (λ most. silent m _ _ _ p.core p'.core _ h.reply p.tally p'.tally _ _ c.args.traced most _ _ c.requires.due h.fit h.step h.heard.after h.heard.random h.heard.tally refl)

pub returns-in-Ok : goal.returns-in-Ok
returns-in-Ok g c =
    let m = g.M.Stepper.means in
    let p = c.args.self.now in
    let p' = c.ask.new.self in
    let h = c.ask.ensures.hears in
    record {
      runs = λ most. goes m _ _ _ p.core p'.core _ h.reply p.tally p'.tally _ _ c.args.traced most _ _ c.requires.due h.fit h.step h.heard.after h.heard.random h.heard.tally c.notes.result.now _ c.args.status tt (not_sink c.args.status c.in_default.not-Sink) c.notes.ensures c.in-Ok.ensures.ok;
      status = inl refl;
      fewer = c.ask.ensures.fewer;
      cause = rw (fails_same c.args.status) (cause_ok _ _ _ c.in-Ok.ensures.cause);
    }

pub returns-in-Err : goal.returns-in-Err
returns-in-Err g c =
    let m = g.M.Stepper.means in
    let p = c.args.self.now in
    let p' = c.ask.new.self in
    let h = c.ask.ensures.hears in
    record {
      runs = λ most. breaks m _ _ _ p.core p'.core _ h.reply p.tally p'.tally _ _ c.args.traced most _ _ c.requires.due h.fit h.step h.heard.after h.heard.random h.heard.tally c.notes.result.now c.args.status c.in_default.not-Sink c.requires.stopped c.notes.ensures c.in-Err.ensures.err;
      status = inr refl;
      fewer = c.ask.ensures.fewer;
      cause = rw (fails_as c.args.status _ (not_sink c.args.status c.in_default.not-Sink)) (cause_err _ _ _ c.in-Err.ensures.cause);
    }
