use Rattle.std.proofs.Common.{refl, inl, inr}
use Rattle.dill_drive.proofs.Statuses.{cause_ok, cause_err, fails_same, fails_as, not_sink}
use Rattle.dill_drive.proofs.Turning.{stop_written, stop_cut}
use Rattle.dill_drive.proofs.progress.Progress.stop.Goals as goal

pub returns-in-Ok : goal.returns-in-Ok
returns-in-Ok g c = record {
  leads = λ most place before keys. stop_written g.M.Stepper.means c.args.traced most c.args.self.now.core c.shut.new.self c.notes.result.now place before c.args.stop c.args.self.now.tally keys _ _ c.shut.ensures.after c.notes.ensures c.in_default.not-Sink c.in-Ok.ensures.ok;
  shut = record { root = c.shut.ensures.closed; few = c.shut.ensures.few };
  tally = refl;
  status = inl refl;
  cause = rw (fails_same c.args.stop) (cause_ok _ _ _ c.in-Ok.ensures.cause);
}

pub returns-in-Err : goal.returns-in-Err
returns-in-Err g c = record {
  leads = λ most place before keys. stop_cut g.M.Stepper.means c.args.traced most c.args.self.now.core c.shut.new.self c.notes.result.now place before c.args.stop c.args.self.now.tally keys _ _ c.shut.ensures.after c.notes.ensures c.in_default.not-Sink c.requires c.in-Err.ensures.err;
  shut = record { root = c.shut.ensures.closed; few = c.shut.ensures.few };
  tally = refl;
  status = inr refl;
  cause = rw (fails_as c.args.stop _ (not_sink c.args.stop c.in_default.not-Sink)) (cause_err _ _ _ c.in-Err.ensures.cause);
}
