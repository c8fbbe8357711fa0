use Rattle.dill_chan.specs.Seats.{is_others}
use Rattle.dill_chan.proofs.Held.{held_fewer}
use Rattle.dill_chan.proofs.channels.Channels.forget.Goals as goal

pub invariant_of-self : goal.invariant_of-self
invariant_of-self c =
    let h = c.self.inside in
    rw (c.leave.ensures.items, c.leave.ensures.capacity) (held_fewer (is_others c.args.who) h.waits.items h.seats.items _ c.self.invariant)
