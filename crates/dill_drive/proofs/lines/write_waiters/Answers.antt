use Rattle.std.proofs.Common.{◌∙◌, sym, refl}
use Rattle.dill_drive.proofs.Flowing.{on_err}
use Rattle.dill_drive.proofs.Rising.{behind_none, behind_more, behind_cut, behind_all, fewer_above}
use Rattle.dill_drive.proofs.lines.write_waiters.Goals as goal

pub loop-who-init : goal.loop-who-init
loop-who-init g c = record { behind = λ rises. behind_none (g.M.Stepper.means.waiting c.args.core.now) (g.W.Sink.told c.args.out.now) rises; count = refl }

pub returns-in_err-write_waiting-clause-err : goal.returns-in_err-write_waiting-clause-err
returns-in_err-write_waiting-clause-err g c =
    let rises = c.in-Some.ensures.rises in
    on_err c.from_residual.result (behind_cut (g.M.Stepper.means.waiting c.args.core.now) _ (c.in-Some.who, c.in-Some.word) _ _ _ rises (sym c.in-Some.ensures.value) (c.loop-who.invariant.behind rises) c.in_err-write_waiting.ensures.err)

pub loop-who-smaller : goal.loop-who-smaller
loop-who-smaller g c = fewer_above (g.M.Stepper.means.waiting c.args.core.now) _ (c.in-Some.who, c.in-Some.word) c.in-Some.ensures.rises (sym c.in-Some.ensures.value)

pub loop-who-preserved : goal.loop-who-preserved
loop-who-preserved g c = record {
  behind = λ rises. behind_more (g.M.Stepper.means.waiting c.args.core.now) _ (c.in-Some.who, c.in-Some.word) _ _ _ rises (sym c.in-Some.ensures.value) (c.loop-who.invariant.behind rises) c.in_ok-write_waiting.ensures.ok;
  count = c.in_ok-write_waiting.ensures.cause.kept ∙ c.loop-who.invariant.count;
}

pub returns-clause-ok : goal.returns-clause-ok
returns-clause-ok g c = behind_all (g.M.Stepper.means.waiting c.args.core.now) _ _ _ (sym c.waiting.ensures.value ∙ c.in_default.is) (c.loop-who.invariant.behind c.waiting.ensures.rises)
