use Rattle.std.proofs.Common.{refl}
use Rattle.std.proofs.lemmas.Bool.{lt-ltb}
use Rattle.dill_slots.specs.Whole.{slots_of}
use Rattle.dill_slots.proofs.Kept.{wait_fits, whole_waiting}
use Rattle.dill_slots.proofs.Consistent.{consistent_waited}
use Rattle.dill_slots.proofs.slots.Slots.wait_on.Goals as goal

pub push-requires : goal.push-requires
push-requires g c =
    let live = rw (← c.self.view_is) at c.requires.live in
    let new = rw (← c.self.view_is) at c.requires.new in
    wait_fits _ _ _ _ _ c.args.slot c.args.clause c.args.queue c.self.invariant live (lt-ltb c.args.clause 16 c.requires.clause) new

pub invariant_of-self : goal.invariant_of-self
invariant_of-self g c =
    let live = rw (← c.self.view_is) at c.requires.live in
    let new = rw (← c.self.view_is) at c.requires.new in
    let h = c.self.inside in
    rw c.push.ensures (whole_waiting h.live.items h.free h.ready h.timers h.waits _ c.self.invariant refl (consistent_waited (slots_of h.live.items h.ready h.timers h.waits) c.args.slot c.args.clause c.args.queue c.self.invariant.consistent live (lt-ltb c.args.clause 16 c.requires.clause) new))
