use Rattle.std.proofs.Common.{refl}
use Rattle.dill_slots.specs.Whole.{slots_of}
use Rattle.dill_slots.proofs.Kept.{whole_timed}
use Rattle.dill_slots.proofs.Consistent.{consistent_cleared}
use Rattle.dill_slots.proofs.slots.Slots.clear_timer.Goals as goal

pub invariant_of-self : goal.invariant_of-self
invariant_of-self g c =
    let h = c.self.inside in
    rw c.clear.ensures.rest (whole_timed h.live.items h.free h.ready h.timers _ h.waits c.self.invariant refl (consistent_cleared (slots_of h.live.items h.ready h.timers h.waits) c.args.slot c.self.invariant.consistent))
