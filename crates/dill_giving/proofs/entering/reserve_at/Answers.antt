use Rattle.std.proofs.Common.{◌∙◌, sym}
use Rattle.dill_rules.specs.Links.{reserved}
use Rattle.dill_world.specs.Store.{world_of}
use Rattle.dill_giving.proofs.Asking.{on_ok_so, on_err_so}
use Rattle.dill_giving.proofs.Named.{put_there, put_same, lost}
use Rattle.dill_giving.proofs.entering.reserve_at.Goals as goal

pub returns-in-None-clause-ok : goal.returns-in-None-clause-ok
returns-in-None-clause-ok g c = sym (lost (world_of c.args.world.now) c.args.handle (reserved c.args.want) (sym c.link_at.ensures.value ∙ c.in-None.is))

pub returns-in-Some-clause-ok : goal.returns-in-Some-clause-ok
returns-in-Some-clause-ok g c =
    let w = world_of c.args.world.now in
    on_ok_so c.reserve.result (put_there w c.args.handle c.in-Some.link c.row_mut.result.now c.reserve.new.row (reserved c.args.want) (sym c.link_at.ensures.value ∙ c.in-Some.is) c.row_mut.ensures.row) c.reserve.ensures.ok

pub returns-in-Some-clause-err : goal.returns-in-Some-clause-err
returns-in-Some-clause-err g c =
    let w = world_of c.args.world.now in
    on_err_so c.reserve.result (put_same w c.in-Some.link c.row_mut.result.now c.reserve.new.row c.row_mut.ensures.row) c.reserve.ensures.err
