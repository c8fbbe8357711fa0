use Rattle.std.proofs.Common.{length, ap, arith}
use Rattle.dill_world.proofs.Closing.{closed_world, closed_lengths, part_behind}
use Rattle.dill_world.proofs.world.World.close_all.Goals as goal

pub invariant_of-self : goal.invariant_of-self
invariant_of-self g c =
    let a = rw c.as_slice.ensures at c.add_closings.ensures.items in
    let f = ap length c.as_slice-first.ensures.value in
    let p = part_behind c.self.inside.closings.items _ c.add_closings.new.closings.items (length c.as_slice-first.result.now) a f in
    let n = closed_lengths c.args.who c.self.inside.handles c.close_each.new.handles c.self.inside.closings.items c.add_closings.new.closings.items _ a p (rw c.deref.ensures.value at c.close_each.ensures.handles) in
    let i = c.self.invariant in
    (omega (arith, n.0, n.1, i.0), omega (arith, n.0, n.1, i.1, c.add_closings.ensures.capacity), omega (arith, n.2, i.2), i.3)

pub returns : goal.returns
returns g c =
    let a = rw c.as_slice.ensures at c.add_closings.ensures.items in
    let f = ap length c.as_slice-first.ensures.value in
    let p = part_behind c.self.inside.closings.items _ c.add_closings.new.closings.items (length c.as_slice-first.result.now) a f in
    rw (← c.self.view_is) (closed_world c.args.who _ c.close_each.new.handles c.close_each.new.scopes c.add_closings.new.closings.items _ a p (rw c.deref.ensures.value at c.close_each.ensures.handles) (rw c.deref.ensures.value at c.close_each.ensures.scopes))
