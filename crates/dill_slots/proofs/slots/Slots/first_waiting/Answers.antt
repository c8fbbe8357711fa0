use Rattle.dill_slots.proofs.Located.{first_found, found_is_live}
use Rattle.dill_slots.proofs.slots.Slots.first_waiting.Goals as goal

pub returns-clause-first : goal.returns-clause-first
returns-clause-first g c = rw (← c.self.view_is) (first_found c.args.queue _ _ c.first_on.result c.as_slice.ensures c.first_on.ensures)

pub returns-clause-live : goal.returns-clause-live
returns-clause-live g c =
    let h = c.self.inside in
    let first = first_found c.args.queue _ h.waits.items c.first_on.result c.as_slice.ensures c.first_on.ensures in
    rw (← c.self.view_is) (found_is_live h.live.items c.args.queue h.waits.items c.first_on.result c.self.invariant.consistent.waiting_live first)
