use Rattle.std.proofs.Common.{arith, ap, length, refl, subst, sym}
use Rattle.dill_slots.specs.Whole.{IsWhole}
use Rattle.dill_slots.proofs.Kept.{whole_changed}
use Rattle.dill_slots.proofs.Located.{place_in, place_within, value_there, set_there, slots_same}
use Rattle.dill_slots.proofs.slots.Slots.get_mut.Goals as goal

pub index_mut-held-requires : goal.index_mut-held-requires
index_mut-held-requires g c =
    let some = rw (← c.self.view_is) at c.requires in
    let place = place_in _ _ c.args.slot c.place_of-at.result some c.as_slice.ensures.value c.place_of-at.ensures.place in
    omega (arith, place_within _ c.args.slot c.place_of-at.result place, c.as_slice.ensures.len, ap length c.as_slice.ensures.value)

pub invariant_of-self-lent : goal.invariant_of-self-lent
invariant_of-self-lent g c = λ w.
    let some = rw (← c.self.view_is) at c.requires in
    let place = place_in _ _ c.args.slot c.place_of-at.result some c.as_slice.ensures.value c.place_of-at.ensures.place in
    let h = c.self.inside in
    subst (λ l. IsWhole l h.free h.ready h.timers h.waits) (sym (set_there h.live.items c.args.slot c.place_of-at.result c.index_mut-held.result.now w place c.self.invariant.consistent.once_live c.index_mut-held.ensures.value)) (whole_changed h.live.items h.free h.ready h.timers h.waits c.args.slot w c.self.invariant)

pub returns : goal.returns
returns g c =
    let some = rw (← c.self.view_is) at c.requires in
    let place = place_in _ _ c.args.slot c.place_of-at.result some c.as_slice.ensures.value c.place_of-at.ensures.place in
    let h = c.self.inside in (
      (refl, λ w. rw (← c.self.view_is) (slots_same _ _ h.ready h.timers h.waits (set_there h.live.items c.args.slot c.place_of-at.result c.index_mut-held.result.now w place c.self.invariant.consistent.once_live c.index_mut-held.ensures.value))),
      record {
        writes_back = tt;
        value = rw (← c.self.view_is) (value_there _ c.args.slot c.place_of-at.result c.index_mut-held.result.now place c.index_mut-held.ensures.value);
        counted = c.place_of-at.ensures.counted;
      },
    )
