use Rattle.std.proofs.Common.{arith, ap, length, ◌∙◌}
use Rattle.std.proofs.lemmas.List.Edits.{length-remove}
use Rattle.dill_slots.proofs.Kept.{whole_removed}
use Rattle.dill_slots.proofs.Located.{place_in, place_within, value_there, removed_there, slots_same}
use Rattle.dill_slots.proofs.slots.Slots.remove.Goals as goal

pub remove-value-requires : goal.remove-value-requires
remove-value-requires g c =
    let some = rw (← c.self.view_is) at c.requires.live in
    let place = place_in _ _ c.args.slot c.place_of-at.result some c.as_slice.ensures.value c.place_of-at.ensures.place in
    omega (arith, place_within _ c.args.slot c.place_of-at.result place, c.as_slice.ensures.len, ap length c.as_slice.ensures.value)

pub invariant_of-self : goal.invariant_of-self
invariant_of-self g c =
    let some = rw (← c.self.view_is) at c.requires.live in
    let place = place_in _ _ c.args.slot c.place_of-at.result some c.as_slice.ensures.value c.place_of-at.ensures.place in
    let unready = rw (← c.self.view_is) at c.requires.unready in
    let untimed = rw (← c.self.view_is) at c.requires.untimed in
    let unwaiting = rw (← c.self.view_is) at c.requires.unwaiting in
    let h = c.self.inside in
    let within = place_within h.live.items c.args.slot c.place_of-at.result place in
    whole_removed h.live.items _ h.free _ h.ready h.timers h.waits c.args.slot c.self.invariant some unready untimed unwaiting (c.remove-value.ensures.items ∙ removed_there h.live.items c.args.slot c.place_of-at.result place c.self.invariant.consistent.once_live) (omega (arith, ap length c.remove-value.ensures.items, length-remove h.live.items c.place_of-at.result within)) c.push.ensures

pub returns-clause-value : goal.returns-clause-value
returns-clause-value g c =
    let some = rw (← c.self.view_is) at c.requires.live in
    let place = place_in _ _ c.args.slot c.place_of-at.result some c.as_slice.ensures.value c.place_of-at.ensures.place in
    rw (← c.self.view_is) (value_there _ c.args.slot c.place_of-at.result c.remove-value.result place c.remove-value.ensures.value)

pub returns-clause-rest : goal.returns-clause-rest
returns-clause-rest g c =
    let some = rw (← c.self.view_is) at c.requires.live in
    let place = place_in _ _ c.args.slot c.place_of-at.result some c.as_slice.ensures.value c.place_of-at.ensures.place in
    let h = c.self.inside in
    rw (← c.self.view_is) (slots_same _ _ h.ready h.timers h.waits (c.remove-value.ensures.items ∙ removed_there h.live.items c.args.slot c.place_of-at.result place c.self.invariant.consistent.once_live))
