use Rattle.std.proofs.Common.{◌∙◌, arith, sym}
use Rattle.dill_drive.proofs.Statuses.{status_trans, cause_trans}
use Rattle.dill_drive.proofs.Turning.{then_last}
use Rattle.dill_drive.proofs.progress.Progress.close.Goals as goal

pub loop-self-preserved : goal.loop-self-preserved
loop-self-preserved g c =
    let s = c.loop-self.self in
    let last = c.last_turn-status.ensures in
    record {
      leads = λ most. then_last g.M.Stepper.means c.args.traced most _ _ s.core c.loop-self.status s.tally (g.R.Rng.stream c.loop-self.keys) _ _ _ (sym c.has_ended.ensures ∙ c.loop-self-test.true) (c.loop-self.invariant.leads most) (last.leads most);
      status = status_trans c.args.stop c.loop-self.status c.last_turn-status.result c.loop-self.invariant.status last.status;
      root = last.closed;
      debt = omega (arith, last.fewer, last.counts, c.loop-self.invariant.debt);
      cause = cause_trans c.args.stop c.loop-self.status c.last_turn-status.result _ _ _ c.loop-self.invariant.status last.status c.loop-self.invariant.cause last.cause;
    }
