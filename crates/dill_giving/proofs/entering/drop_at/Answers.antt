use Rattle.std.proofs.Common.{◌∙◌, sym}
use Rattle.dill_stack.specs.Interface.{drop_unread}
use Rattle.dill_rules.specs.Links.{with_stack}
use Rattle.dill_world.specs.Store.{world_of}
use Rattle.dill_giving.proofs.Named.{put_there, lost}
use Rattle.dill_giving.proofs.entering.drop_at.Goals as goal

pub returns-in-Some : goal.returns-in-Some
returns-in-Some g c =
    let w = world_of c.args.world.now in
    put_there w c.args.handle c.in-Some.link c.row_mut.result.now c.drop_unread.new.row (with_stack drop_unread) (sym c.link_at.ensures.value ∙ c.in-Some.is) c.row_mut.ensures.row c.drop_unread.ensures

pub returns-in_default : goal.returns-in_default
returns-in_default g c = sym (lost (world_of c.args.world.now) c.args.handle (with_stack drop_unread) (sym c.link_at.ensures.value ∙ c.in_default.is))
