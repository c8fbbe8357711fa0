use Rattle.std.proofs.Common.{arith}
use Rattle.dill_chan.proofs.Held.{held_seated}
use Rattle.dill_chan.proofs.channels.Channels.seat.Goals as goal

pub invariant_of-self-2 : goal.invariant_of-self-2
invariant_of-self-2 c =
    let above = rw (← c.self.view_is) at c.requires.above in
    let few = rw (← c.self.view_is) at c.requires.few in
    let h = c.self.inside in
    held_seated h.waits.items _ h.seats.items _ _ c.args.who _ _ c.self.invariant above few c.in-Ok.ensures.items c.in-Ok-reserve.ensures.items c.push_reserved.ensures.items (omega (arith, c.in-Ok.ensures.ok, c.saturating_sub-more.ensures, c.len.ensures, c.len-2.ensures, h.seats.ok.0, h.waits.ok.0, few))
