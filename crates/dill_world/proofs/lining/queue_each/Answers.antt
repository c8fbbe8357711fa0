use Rattle.std.proofs.Common.{length, take, ap, arith, length-append}
use Rattle.std.proofs.lemmas.List.Folds.{length-flat_map-take}
use Rattle.dill_world.specs.Lined.{fresh_one, fresh_of}
use Rattle.dill_world.proofs.lining.queue_each.Goals as goal

pub queue_one-requires : goal.queue_one-requires
queue_one-requires g c =
    let i = c.loop-c.c-index in
    let xs = c.args.coroutines.now in
    let within = length-flat_map-take fresh_one xs i c.c-item.result (omega arith) in
    let there = ap (λ x. length (fresh_one x)) c.c-item.is in
    let so_far = ap length c.loop-c.invariant.items in
    let sum = length-append c.args.ready.now.items (fresh_of (take i xs)) in
    omega (arith, within, there, so_far, sum)
