use Rattle.std.proofs.Common.{◌≡◌, ◌∙◌, inl, inr, refl, ap}
use Rattle.dill_drive.specs.Story.{final}
use Rattle.dill_drive.proofs.Statuses.{cause_ok, cause_err, fails_final, fails_as, not_sink}
use Rattle.dill_drive.proofs.Turning.{ends_written, ends_cut, finish_silent}
use Rattle.dill_drive.proofs.progress.Progress.finish.Goals as goal

pub returns-in-Sink-clause-leads : goal.returns-in-Sink-clause-leads
returns-in-Sink-clause-leads g c =
    let s = c.args.self.now in
    rw c.in-Sink.is (λ traced most keys. finish_silent g.M.Stepper.means traced most s.core s.tally keys (g.W.Sink.told c.args.out.now) c.requires.none)

pub returns-in-Ok : goal.returns-in-Ok
returns-in-Ok g c =
    let s = c.args.self.now in
    let m = g.M.Stepper.means in
    let end = c.final_of-status.result in
    let is : end ≡ final c.args.stop (m.ended s.core) = c.final_of-status.ensures ∙ ap (final c.args.stop) c.ended.ensures in
    record {
      leads = λ traced most keys. ends_written m traced most s.core c.args.stop end s.tally keys c.summary.result _ _ c.requires.none c.in_default.not-Sink is c.summary.ensures c.in-Ok.ensures.ok;
      status = inl is;
      cause = rw (fails_final c.args.stop end (m.ended s.core) c.in_default.not-Sink is) (cause_ok _ _ _ c.in-Ok.ensures.cause);
    }

pub returns-in-Err : goal.returns-in-Err
returns-in-Err g c =
    let s = c.args.self.now in
    let m = g.M.Stepper.means in
    let end = c.final_of-status.result in
    let is : end ≡ final c.args.stop (m.ended s.core) = c.final_of-status.ensures ∙ ap (final c.args.stop) c.ended.ensures in
    record {
      leads = λ traced most keys. ends_cut m traced most s.core c.args.stop end s.tally keys c.summary.result _ _ c.requires.none c.in_default.not-Sink is c.summary.ensures c.in-Err.ensures.err;
      status = inr refl;
      cause = rw (fails_as c.args.stop _ (not_sink c.args.stop c.in_default.not-Sink)) (cause_err _ _ _ c.in-Err.ensures.cause);
    }
