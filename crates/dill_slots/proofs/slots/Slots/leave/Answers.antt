use Rattle.std.proofs.Common.{refl}
use Rattle.dill_slots.specs.Whole.{slots_of}
use Rattle.dill_slots.proofs.Kept.{whole_waiting}
use Rattle.dill_slots.proofs.Consistent.{consistent_left}
use Rattle.dill_slots.proofs.slots.Slots.leave.Goals as goal

pub invariant_of-self : goal.invariant_of-self
invariant_of-self g c =
    let h = c.self.inside in
    rw c.leave.ensures (whole_waiting h.live.items h.free h.ready h.timers h.waits _ c.self.invariant refl (consistent_left (slots_of h.live.items h.ready h.timers h.waits) c.args.slot c.self.invariant.consistent))
