use Rattle.std.proofs.Common.{ap, length, arith}
use Rattle.dill_loop.specs.Store.{network_of}
use Rattle.dill_loop.proofs.Kept.{marks_within}
use Rattle.dill_loop.proofs.network.Net.mark_refused.Goals as goal

pub mark_one-requires-clause-room : goal.mark_one-requires-clause-room
mark_one-requires-clause-room c =
    let within = marks_within (network_of c.loop-at.self) c.loop-at.invariant.consistent in
    let pairs = ap length c.loop-at.invariant.pairs in
    let listeners = ap length c.loop-at.invariant.listeners in
    omega (arith, within, pairs, listeners, c.loop-at.invariant.capacity, c.requires.room)
