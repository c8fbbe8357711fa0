use Rattle.std.proofs.Common.{refl}
use Rattle.dill_slots.specs.Whole.{slots_of}
use Rattle.dill_slots.proofs.Kept.{ready_fits, whole_readied}
use Rattle.dill_slots.proofs.Consistent.{consistent_pushed}
use Rattle.dill_slots.proofs.slots.Slots.ready_push.Goals as goal

pub push-requires : goal.push-requires
push-requires g c =
    let live = rw (← c.self.view_is) at c.requires.live in
    let unready = rw (← c.self.view_is) at c.requires.unready in
    ready_fits _ _ _ _ _ c.args.slot c.self.invariant live unready

pub invariant_of-self : goal.invariant_of-self
invariant_of-self g c =
    let live = rw (← c.self.view_is) at c.requires.live in
    let unready = rw (← c.self.view_is) at c.requires.unready in
    let h = c.self.inside in
    rw c.push.ensures (whole_readied h.live.items h.free h.ready _ h.timers h.waits c.self.invariant refl (consistent_pushed (slots_of h.live.items h.ready h.timers h.waits) c.args.slot c.self.invariant.consistent live unready))
