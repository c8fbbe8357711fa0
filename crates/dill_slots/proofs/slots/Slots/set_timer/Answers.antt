use Rattle.std.proofs.Common.{arith, ap, length, refl}
use Rattle.dill_slots.specs.Whole.{slots_of}
use Rattle.dill_slots.proofs.Kept.{timer_fits, whole_timed}
use Rattle.dill_slots.proofs.Located.{place_in, place_within, timed_there, timed_same}
use Rattle.dill_slots.proofs.Consistent.{consistent_timed}
use Rattle.dill_slots.proofs.slots.Slots.set_timer.Goals as goal

pub index-requires : goal.index-requires
index-requires g c =
    let some = rw (← c.self.view_is) at c.requires.live in
    let place = place_in _ _ c.args.slot c.place_of-at.result some c.as_slice.ensures.value c.place_of-at.ensures.place in
    omega (arith, place_within _ c.args.slot c.place_of-at.result place, c.as_slice.ensures.len, ap length c.as_slice.ensures.value)

pub put-requires : goal.put-requires
put-requires g c =
    let some = rw (← c.self.view_is) at c.requires.live in
    let place = place_in _ _ c.args.slot c.place_of-at.result some c.as_slice.ensures.value c.place_of-at.ensures.place in
    let untimed = rw (← c.self.view_is) at c.requires.untimed in
    let h = c.self.inside in
    timer_fits h.live.items h.free h.ready h.timers h.waits (record { deadline = c.args.deadline; id = c.index.result.now.id; slot = c.args.slot }) c.self.invariant (timed_there h.live.items c.args.slot c.place_of-at.result c.args.deadline c.index.result.now place c.index.ensures) untimed

pub invariant_of-self : goal.invariant_of-self
invariant_of-self g c =
    let some = rw (← c.self.view_is) at c.requires.live in
    let place = place_in _ _ c.args.slot c.place_of-at.result some c.as_slice.ensures.value c.place_of-at.ensures.place in
    let untimed = rw (← c.self.view_is) at c.requires.untimed in
    let h = c.self.inside in
    rw c.put.ensures.put (whole_timed h.live.items h.free h.ready h.timers _ h.waits c.self.invariant refl (consistent_timed (slots_of h.live.items h.ready h.timers h.waits) _ c.self.invariant.consistent (timed_there h.live.items c.args.slot c.place_of-at.result c.args.deadline c.index.result.now place c.index.ensures) untimed))

pub returns-clause-timed : goal.returns-clause-timed
returns-clause-timed g c =
    let some = rw (← c.self.view_is) at c.requires.live in
    let place = place_in _ _ c.args.slot c.place_of-at.result some c.as_slice.ensures.value c.place_of-at.ensures.place in
    let h = c.self.inside in
    rw (← c.self.view_is) (timed_same h.live.items h.ready h.timers _ h.waits c.args.slot c.place_of-at.result c.args.deadline c.index.result.now place c.index.ensures c.put.ensures.put)
