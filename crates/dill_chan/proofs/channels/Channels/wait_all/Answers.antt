use Rattle.std.proofs.Common.{◌≡◌, true, ap, arith}
use Rattle.std.proofs.lemmas.Bool.{and_parts, not-true}
use Rattle.std.specs.Prelude.{not}
use Rattle.dill_chan.specs.Seats.{has_seat, has_room_for, is_waiting, seated}
use Rattle.dill_chan.specs.Seats as seats
use Rattle.dill_chan.proofs.Waiting.{held_all, all_fit, appended}
use Rattle.dill_chan.proofs.channels.Channels.wait_all.Goals as goal

pub invariant_of-self : goal.invariant_of-self
invariant_of-self c =
    let h = c.self.inside in
    let who = c.args.who in
    let s = seated h.ends.items h.waits.items h.seats.items h.last in
    let room : has_room_for s who ≡ true = rw (← c.self.view_is) at c.requires.room in
    let parts = and_parts (has_seat s who) (not (is_waiting s.channels who)) room in
    let none = not-true (is_waiting s.channels who) parts.1 in
    let fits = all_fit h.waits.items c.args.clauses.items h.seats.items who _ c.self.invariant none parts.0 c.requires.rising in
    let moved = appended c.append.result c.append.new.self.items h.waits.items c.args.clauses.items (c.append.ensures.succeeds (omega (arith, fits, h.waits.ok.0, c.args.clauses.ok.0))) c.append.ensures.items in
    rw moved (held_all h.waits.items c.args.clauses.items h.seats.items who _ _ c.self.invariant none parts.0 c.requires.rising c.append.ensures.capacity)

pub returns : goal.returns
returns c =
    let h = c.self.inside in
    let who = c.args.who in
    let s = seated h.ends.items h.waits.items h.seats.items h.last in
    let room : has_room_for s who ≡ true = rw (← c.self.view_is) at c.requires.room in
    let parts = and_parts (has_seat s who) (not (is_waiting s.channels who)) room in
    let none = not-true (is_waiting s.channels who) parts.1 in
    let fits = all_fit h.waits.items c.args.clauses.items h.seats.items who _ c.self.invariant none parts.0 c.requires.rising in
    let moved = appended c.append.result c.append.new.self.items h.waits.items c.args.clauses.items (c.append.ensures.succeeds (omega (arith, fits, h.waits.ok.0, c.args.clauses.ok.0))) c.append.ensures.items in
    rw (← c.self.view_is) (ap (λ ws. seated h.ends.items ws h.seats.items h.last) moved)
