use Rattle.std.proofs.Common.{◌≡◌, arith}
use Rattle.link_bench.proofs.due.watched.Goals as goal

pub add_next-requires-2-clause-below : goal.add_next-requires-2-clause-below
add_next-requires-2-clause-below c =
    let at : c.loop-link.link ≡ c.args.last = omega (arith, c.loop-link.invariant.within, c.loop-link-test.false) in
    rw (c.in_ok-keep-2.ensures.ok, ← at) c.loop-link.invariant.below
