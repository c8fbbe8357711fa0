use Rattle.std.proofs.Common.{◌∙◌, drop, find, filter_map, nat_lt, sym, ap}
use Rattle.dill_steps.specs.Timing.{pair_of}
use Rattle.dill_steps.proofs.Waiters.{pairs, rest_from}
use Rattle.dill_steps.proofs.expiring.waiting_from.Goals as goal

pub returns : goal.returns
returns g c =
    let all = c.args.world.now.coroutines in
    (rw c.coroutines.ensures.rows at c.first_waiter.ensures)
    ∙ ap (λ cs. find (λ x. nat_lt c.args.after x.0) (filter_map pair_of cs)) (rest_from all c.args.place)
    ∙ sym (pairs c.args.after (drop c.args.place all))
