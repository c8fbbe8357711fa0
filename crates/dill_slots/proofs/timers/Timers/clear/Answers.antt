use Rattle.std.proofs.Common.{arith}
use Rattle.dill_slots.proofs.Finding.{timer_cleared, timer_kept}
use Rattle.dill_slots.proofs.timers.Timers.clear.Goals as goal

pub returns-then-at-len-clause-rest : goal.returns-then-at-len-clause-rest
returns-then-at-len-clause-rest g c =
    let once = rw (← c.self.view_is) at c.requires in
    rw (← c.self.view_is) (timer_cleared c.args.slot _ _ _ c.self.inside.room c.place_of_slot-at.result once c.as_slice.ensures.value c.place_of_slot-at.ensures.place c.remove.ensures.items)

pub returns-else-at-len-clause-rest : goal.returns-else-at-len-clause-rest
returns-else-at-len-clause-rest g c =
    rw (← c.self.view_is) (timer_kept c.args.slot _ _ c.self.inside.room c.place_of_slot-at.result c.as_slice.ensures.value c.place_of_slot-at.ensures.place (omega (arith, c.if-at-len.false, c.len.ensures, c.as_slice.ensures.len)))
