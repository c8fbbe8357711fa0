use Rattle.std.proofs.Common.{refl}
use Rattle.dill_drive.proofs.Trying.{goes, stops, keeps_turns}
use Rattle.dill_drive.proofs.progress.Progress.one_try.Goals as goal

pub returns-in-Ok : goal.returns-in-Ok
returns-in-Ok g c =
    let m = g.M.Stepper.means in
    let p = c.args.self.now in
    let p' = c.ask.new.self in
    let h = c.ask.ensures.hears in
    record {
      ok = λ most place is. goes m _ _ _ p.core p'.core _ h.reply p.tally p'.tally _ _ c.args.traced most _ _ c.requires.due h.fit h.step h.heard.after h.heard.random h.heard.tally c.notes.result.now place _ is refl c.notes.ensures c.in-Ok.ensures.ok;
      err = tt;
      shut = tt;
      fewer = c.ask.ensures.fewer;
      counts = keeps_turns p.tally p'.tally h.reply h.heard.tally;
      cause = c.in-Ok.ensures.cause;
    }

pub returns-in-Err : goal.returns-in-Err
returns-in-Err g c =
    let m = g.M.Stepper.means in
    let p = c.args.self.now in
    let p' = c.ask.new.self in
    let h = c.ask.ensures.hears in
    record {
      ok = tt;
      err = λ most place is. stops m _ _ _ p.core p'.core _ h.reply p.tally p'.tally _ _ c.args.traced most _ _ c.requires.due h.fit h.step h.heard.after h.heard.random h.heard.tally c.shut.new.self c.notes.result.now place is c.notes.ensures c.shut.ensures.after c.in-Err.ensures.err;
      shut = record { root = c.shut.ensures.closed; few = c.shut.ensures.few };
      fewer = tt;
      counts = keeps_turns p.tally p'.tally h.reply h.heard.tally;
      cause = c.in-Err.ensures.cause;
    }
