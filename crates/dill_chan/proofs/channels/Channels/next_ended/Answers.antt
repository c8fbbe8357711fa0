use Rattle.dill_chan.proofs.Nearing.{next_is, ended_seated}
use Rattle.dill_chan.proofs.channels.Channels.next_ended.Goals as goal

pub returns-clause-next : goal.returns-clause-next
returns-clause-next g c =
    let h = c.self.inside in
    rw (← c.self.view_is) (next_is h.ends.items _ h.waits.items _ h.last c.args.after c.next_ended.result c.as_slice.ensures.value c.as_slice-2.ensures.value c.next_ended.ensures)

pub returns-clause-seat : goal.returns-clause-seat
returns-clause-seat g c =
    let h = c.self.inside in
    rw (← c.self.view_is) (ended_seated _ h.waits.items _ h.seats.items c.args.after c.next_ended.result c.self.invariant.among c.as_slice-2.ensures.value c.next_ended.ensures)
