use Rattle.std.proofs.Common.{vec_capacity}
use Rattle.dill_core.proofs.Places.{opened_held}
use Rattle.dill_core.proofs.crew.Core.new.Goals as goal

pub invariant_of-result : goal.invariant_of-result
invariant_of-result g c =
    opened_held g.B.Body.means c.in_ok-world.world c.in_ok-ready.ready.items c.args.body (vec_capacity c.in_ok-ready.ready) c.in_ok-world.ensures c.in_ok-ready.ensures.items (c.steps_keep_stable.ensures.opening c.args.body c.requires) c.in_ok-ready.ensures.room
