use Rattle.std.proofs.Common.{arith, ap, ◌∙◌}
use Rattle.dill_chan.specs.Meetings.{meeting}
use Rattle.dill_chan.specs.Seats.{channels_of}
use Rattle.dill_chan.proofs.Held.{wait_fits, held_entered}
use Rattle.dill_chan.proofs.Taking.{seated_with, entered_from}
use Rattle.dill_chan.proofs.channels.Channels.enter.Goals as goal

pub enter-requires : goal.enter-requires
enter-requires c =
    let seat = rw (← c.self.view_is) at c.requires.seat in
    let new = rw (← c.self.view_is) at c.requires.new in
    let h = c.self.inside in
    omega (arith, h.waits.ok.0, wait_fits h.waits.items h.seats.items _ c.args.wait c.self.invariant seat c.requires.clause new)

pub invariant_of-self : goal.invariant_of-self
invariant_of-self c =
    let seat = rw (← c.self.view_is) at c.requires.seat in
    let new = rw (← c.self.view_is) at c.requires.new in
    let h = c.self.inside in
    rw c.enter.ensures.capacity (held_entered h.ends.items h.waits.items _ 0 h.seats.items _ c.args.wait c.self.invariant seat c.requires.clause new (entered_from _ _ _ _ c.args.wait c.as_slice.ensures.value c.enter.ensures.left))

pub returns-clause-left : goal.returns-clause-left
returns-clause-left c =
    let h = c.self.inside in
    rw (← c.self.view_is) (seated_with h.ends.items h.waits.items _ h.seats.items h.last c.args.wait (entered_from _ _ _ _ c.args.wait c.as_slice.ensures.value c.enter.ensures.left))

pub returns-clause-met : goal.returns-clause-met
returns-clause-met c =
    let h = c.self.inside in
    let w = c.args.wait in
    rw (← c.self.view_is) (c.enter.ensures.met ∙ ap (λ l. meeting (channels_of l h.waits.items 0) w.who w.end w.want) c.as_slice.ensures.value)
