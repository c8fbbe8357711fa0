use Rattle.std.proofs.Common.{sym}
use Rattle.dill_slots.proofs.Located.{passed_live}
use Rattle.dill_slots.proofs.slots.Slots.expire.Goals as goal

pub returns-clause-live : goal.returns-clause-live
returns-clause-live g c =
    let h = c.self.inside in
    passed_live h.live.items c.args.moment h.timers.items c.in_ok-timer.timer c.self.invariant.consistent.timed_live (sym c.in_ok-timer.ensures.first)
