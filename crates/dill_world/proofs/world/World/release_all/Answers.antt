use Rattle.std.proofs.Common.{length, ap, arith}
use Rattle.dill_world.proofs.Closing.{part_behind}
use Rattle.dill_world.proofs.Releasing.{released_world, released_lengths}
use Rattle.dill_world.proofs.world.World.release_all.Goals as goal

pub invariant_of-self : goal.invariant_of-self
invariant_of-self g c =
    let a = rw c.as_slice.ensures at c.note_freed.ensures.items in
    let f = ap length c.as_slice-first.ensures.value in
    let p = part_behind c.self.inside.notes.items _ c.note_freed.new.notes.items (length c.as_slice-first.result.now) a f in
    let n = released_lengths c.args.who c.self.inside.handles c.release_noted.new.handles c.self.inside.notes.items c.note_freed.new.notes.items _ a p (rw c.deref.ensures.value at c.release_noted.ensures.handles) in
    let i = c.self.invariant in
    (omega (arith, n.0, n.2, i.0, c.note_freed.ensures.capacity), omega (arith, n.1, n.2, i.1), omega (arith, n.3, i.2), i.3)

pub returns : goal.returns
returns g c =
    let a = rw c.as_slice.ensures at c.note_freed.ensures.items in
    let f = ap length c.as_slice-first.ensures.value in
    let p = part_behind c.self.inside.notes.items _ c.note_freed.new.notes.items (length c.as_slice-first.result.now) a f in
    rw (← c.self.view_is) (released_world c.args.who _ c.release_noted.new.handles c.release_noted.new.channels.channels c.release_noted.new.links c.note_freed.new.notes.items _ a p (rw c.deref.ensures.value at c.release_noted.ensures.handles) (rw c.deref.ensures.value at c.release_noted.ensures.channels) (rw c.deref.ensures.value at c.release_noted.ensures.links))
