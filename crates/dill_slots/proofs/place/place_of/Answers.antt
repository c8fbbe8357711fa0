use Rattle.std.proofs.Common.{◌≡◌, eq-eqb, sym, subst, true}
use Rattle.dill_slots.specs.Slots.{is_slot}
use Rattle.dill_slots.proofs.Finding.{position_found, whole_none}
use Rattle.dill_slots.proofs.place.place_of.Goals as goal

pub returns-then-held-slot-clause-place : goal.returns-then-held-slot-clause-place
returns-then-held-slot-clause-place g c =
    sym (position_found (is_slot c.args.slot) c.args.live.now c.loop-at.at c.index-live-at.result c.loop-at-test.true c.loop-at.invariant.none (subst (λ x. is_slot c.args.slot x ≡ true) c.index-live-at.is (eq-eqb c.index-live-at.result.slot c.args.slot c.if-held-slot.true)))

pub returns-clause-place : goal.returns-clause-place
returns-clause-place g c =
    sym (whole_none (is_slot c.args.slot) c.args.live.now c.loop-at.at c.loop-at-test.false c.loop-at.invariant.none)
