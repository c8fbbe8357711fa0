use Rattle.dill_world.specs.Store.{world_of}
use Rattle.dill_giving.proofs.Asking.{leaving_asks}
use Rattle.dill_giving.proofs.Named.{named_there}
use Rattle.dill_giving.proofs.entering.detach_start.Goals as goal

pub returns-in-Some : goal.returns-in-Some
returns-in-Some g c =
    let w = world_of c.args.world.now in
    let at = named_there w c.args.call.now c.handle.result c.link_at.result c.in-Some.link c.handle.ensures c.link_at.ensures.value c.in-Some.is in
    leaving_asks w c.args.call.now c.in-Some.link c.row_mut.result.now c.detach_start.new.row (g.R.Rng.stream c.args.keys.now) (g.R.Rng.stream c.detach_start.new.keys) at c.row_mut.ensures.row c.detach_start.result c.detach_start.ensures
