use Rattle.std.proofs.Common.{◌≡◌, ◌∙◌, sym, arith, false}
use Rattle.std.specs.Result.{is_err}
use Rattle.dill_slots.proofs.Kept.{whole_grown, whole_added, taken_dead}
use Rattle.dill_slots.proofs.Located.{on_success}
use Rattle.dill_slots.proofs.slots.Slots.insert.Goals as goal

pub invariant_of-self-2 : goal.invariant_of-self-2
invariant_of-self-2 g c =
    let h = c.self.inside in
    let made = c.make_room-made in
    let grown = whole_grown h.live.items made.new.live.items h.free made.new.free h.ready made.new.ready h.timers made.new.timers h.waits made.new.waits c.self.invariant made.ensures.live made.ensures.free made.ensures.ready made.ensures.timers made.ensures.waits in
    let well : is_err made.result ≡ false = sym c.is_err.ensures.value ∙ c.if-is_err.false in
    let above = rw (← c.self.view_is) at c.requires in
    whole_added h.live.items _ _ _ _ _ _ _ c.pop.result c.len-count.result c.unwrap_or-slot.result c.args.id c.args.value grown (on_success made.result well made.ensures.ok) made.ensures.live c.pop.ensures.first c.pop.ensures.rest c.unwrap_or-slot.ensures (omega (arith, c.len-count.ensures, h.live.ok.0)) c.push_reserved.ensures.items above (omega (arith, c.len-count.ensures, h.live.ok.0, c.if-count-ge-MOST.false))

pub returns-clause-free : goal.returns-clause-free
returns-clause-free g c =
    let h = c.self.inside in
    let made = c.make_room-made in
    let grown = whole_grown h.live.items made.new.live.items h.free made.new.free h.ready made.new.ready h.timers made.new.timers h.waits made.new.waits c.self.invariant made.ensures.live made.ensures.free made.ensures.ready made.ensures.timers made.ensures.waits in
    rw (← c.self.view_is) (taken_dead h.live.items _ _ _ _ _ c.pop.result c.len-count.result c.unwrap_or-slot.result grown made.ensures.live c.pop.ensures.first c.unwrap_or-slot.ensures (omega (arith, c.len-count.ensures, h.live.ok.0)))
