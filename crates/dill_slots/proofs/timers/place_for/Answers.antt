use Rattle.std.proofs.Common.{sym, ◌∙◌}
use Rattle.dill_slots.specs.Slots.{is_earlier}
use Rattle.dill_slots.proofs.Finding.{position_found, whole_none}
use Rattle.dill_slots.proofs.timers.place_for.Goals as goal

pub returns-then-is_earlier-clause-place : goal.returns-then-is_earlier-clause-place
returns-then-is_earlier-clause-place g c =
    sym (position_found (is_earlier c.args.timer) c.args.timers.now c.loop-at.at (record { deadline = 0; id = 0; slot = 0 }) c.loop-at-test.true c.loop-at.invariant.none (sym c.is_earlier.ensures ∙ c.if-is_earlier.true))

pub returns-clause-place : goal.returns-clause-place
returns-clause-place g c =
    sym (whole_none (is_earlier c.args.timer) c.args.timers.now c.loop-at.at c.loop-at-test.false c.loop-at.invariant.none)
