use Rattle.std.proofs.Common.{eq-eqb, sym}
use Rattle.dill_slots.specs.Slots.{is_timer_of}
use Rattle.dill_slots.proofs.Finding.{position_found, whole_none}
use Rattle.dill_slots.proofs.timers.place_of_slot.Goals as goal

pub returns-then-timer-slot-clause-place : goal.returns-then-timer-slot-clause-place
returns-then-timer-slot-clause-place g c =
    sym (position_found (is_timer_of c.args.slot) c.args.timers.now c.loop-at.at (record { deadline = 0; id = 0; slot = 0 }) c.loop-at-test.true c.loop-at.invariant.none (eq-eqb _ c.args.slot c.if-timer-slot.true))

pub returns-clause-place : goal.returns-clause-place
returns-clause-place g c =
    sym (whole_none (is_timer_of c.args.slot) c.args.timers.now c.loop-at.at c.loop-at-test.false c.loop-at.invariant.none)
