use Rattle.dill_chan.proofs.Held.{held_unseat}
use Rattle.dill_chan.proofs.channels.Channels.unseat.Goals as goal

pub invariant_of-self : goal.invariant_of-self
invariant_of-self c =
    let none = rw (← c.self.view_is) at c.requires.waits in
    let h = c.self.inside in
    rw c.stand_up.ensures (held_unseat h.waits.items h.seats.items c.args.who _ c.self.invariant none)
