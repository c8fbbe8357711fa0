use Rattle.dill_world.specs.Store.{world_of, no_random}
use Rattle.dill_giving.proofs.Asking.{layer_ok, layer_err}
use Rattle.dill_giving.proofs.Named.{named_there}
use Rattle.dill_giving.proofs.entering.put_layer.Goals as goal

pub returns-in-Some-clause-ok : goal.returns-in-Some-clause-ok
returns-in-Some-clause-ok g c =
    let w = world_of c.args.world.now in
    let at = named_there w c.args.call.now c.handle.result c.link_at.result c.in-Some.link c.handle.ensures c.link_at.ensures.value c.in-Some.is in
    layer_ok w c.args.call.now c.in-Some.link c.row_mut.result.now c.attach.new.row at c.row_mut.ensures.row c.attach.result (c.attach.ensures no_random)

pub returns-in-Some-clause-err : goal.returns-in-Some-clause-err
returns-in-Some-clause-err g c =
    let w = world_of c.args.world.now in
    let at = named_there w c.args.call.now c.handle.result c.link_at.result c.in-Some.link c.handle.ensures c.link_at.ensures.value c.in-Some.is in
    layer_err w c.args.call.now c.in-Some.link c.row_mut.result.now c.attach.new.row at c.row_mut.ensures.row c.attach.result (c.attach.ensures no_random)
