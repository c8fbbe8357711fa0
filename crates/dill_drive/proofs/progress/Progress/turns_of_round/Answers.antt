use Rattle.std.proofs.Common.{◌∙◌, ◌+◌, ◌-◌, arith, sym}
use Rattle.dill_base.specs.declared.status.Status.TheVariants.{Well}
use Rattle.dill_drive.specs.Story.{Turns}
use Rattle.dill_drive.proofs.Statuses.{err_holds, ok_holds}
use Rattle.dill_drive.proofs.Turning.{then_turn, then_turned, then_spent, then_rests, then_over, one_more_fits}
use Rattle.dill_drive.proofs.progress.Progress.turns_of_round.Goals as goal

pub returns-then-rests-clause-none : goal.returns-then-rests-clause-none
returns-then-rests-clause-none g c =
    let s = c.loop-made.self in
    then_rests g.M.Stepper.means c.args.traced c.args.most _ s.core (64 - c.loop-made.made) s.tally (g.R.Rng.stream c.loop-made.keys) _ _ (sym c.rests.ensures ∙ c.if-rests.true) c.loop-made.invariant.leads

pub returns-then-is_spent-clause-some : goal.returns-then-is_spent-clause-some
returns-then-is_spent-clause-some g c =
    let s = c.loop-made.self in
    then_spent g.M.Stepper.means c.args.traced c.args.most _ _ s.core (64 - c.loop-made.made) s.tally (g.R.Rng.stream c.loop-made.keys) _ _ _ (sym c.rests.ensures ∙ c.if-rests.false) (omega arith) (sym c.is_spent.ensures ∙ c.if-is_spent.true) c.loop-made.invariant.leads (c.stop.ensures.leads c.args.most (Turns (64 - c.loop-made.made)) Well (g.R.Rng.stream c.loop-made.keys))

pub returns-then-is_err-clause-some : goal.returns-then-is_err-clause-some
returns-then-is_err-clause-some g c =
    let s = c.loop-made.self in
    then_turn g.M.Stepper.means c.args.traced c.args.most _ _ s.core (64 - c.loop-made.made) s.tally (g.R.Rng.stream c.loop-made.keys) _ _ _ (sym c.rests.ensures ∙ c.if-rests.false) (omega arith) (sym c.is_spent.ensures ∙ c.if-is_spent.false) c.loop-made.invariant.leads
    (err_holds c.one_turn.result (sym c.is_err.ensures.value ∙ c.if-is_err.true) c.one_turn.ensures.err c.args.most (64 - c.loop-made.made))

pub loop-made-preserved : goal.loop-made-preserved
loop-made-preserved g c =
    let s = c.loop-made.self in
    let fine = sym c.is_err.ensures.value ∙ c.if-is_err.false in
    let turn = c.one_turn.ensures in
    record {
      leads = then_turned g.M.Stepper.means c.args.traced c.args.most _ s.core _ (64 - c.loop-made.made) (64 - (c.loop-made.made + 1)) s.tally _ (g.R.Rng.stream c.loop-made.keys) _ _ _ _ (sym c.rests.ensures ∙ c.if-rests.false) (omega arith) (sym c.is_spent.ensures ∙ c.if-is_spent.false) (omega arith) c.loop-made.invariant.leads
          (ok_holds c.one_turn.result fine turn.ok c.args.most (64 - c.loop-made.made));
      counts = record {
        rounds = turn.rounds ∙ c.loop-made.invariant.counts.rounds;
        closing = turn.closing ∙ c.loop-made.invariant.counts.closing;
        turns = omega (arith, turn.turns, c.loop-made.invariant.counts.turns);
        budget = omega (arith, turn.turns, turn.rounds, one_more_fits s.tally.turns s.tally.rounds c.args.most (sym c.is_spent.ensures ∙ c.if-is_spent.false) c.loop-made.invariant.counts.budget);
      };
      count = ok_holds c.one_turn.result fine turn.cause.kept ∙ c.loop-made.invariant.count;
    }

pub returns-clause-none : goal.returns-clause-none
returns-clause-none g c =
    let s = c.loop-made.self in
    then_over g.M.Stepper.means c.args.traced c.args.most _ s.core (64 - c.loop-made.made) s.tally (g.R.Rng.stream c.loop-made.keys) _ _ (omega arith) c.loop-made.invariant.leads
