use Rattle.std.proofs.Common.{arith, ap, length}
use Rattle.dill_slots.proofs.Located.{place_in, place_within, value_there}
use Rattle.dill_slots.proofs.slots.Slots.get.Goals as goal

pub index-requires : goal.index-requires
index-requires g c =
    let some = rw (← c.self.view_is) at c.requires in
    let place = place_in _ _ c.args.slot c.place_of-at.result some c.as_slice.ensures.value c.place_of-at.ensures.place in
    omega (arith, place_within _ c.args.slot c.place_of-at.result place, c.as_slice.ensures.len, ap length c.as_slice.ensures.value)

pub returns-clause-value : goal.returns-clause-value
returns-clause-value g c =
    let some = rw (← c.self.view_is) at c.requires in
    let place = place_in _ _ c.args.slot c.place_of-at.result some c.as_slice.ensures.value c.place_of-at.ensures.place in
    rw (← c.self.view_is) (value_there _ c.args.slot c.place_of-at.result c.index.result.now place c.index.ensures)
