use Rattle.std.proofs.Common.{◌∙◌, sym}
use Rattle.dill_rules.specs.Giving.{after_send}
use Rattle.dill_rules.specs.Links.{with_stack}
use Rattle.dill_world.specs.Store.{world_of}
use Rattle.dill_giving.proofs.Named.{put_there, lost}
use Rattle.dill_giving.proofs.giving.settle_send.Goals as goal

pub returns-in-Some : goal.returns-in-Some
returns-in-Some g c =
    let w = world_of c.args.world.now in
    put_there w c.args.handle c.in-Some.link c.row_mut.result.now c.after_send.new.row (with_stack (after_send c.args.word c.args.answer.now)) (sym c.link_at.ensures.value ∙ c.in-Some.is) c.row_mut.ensures.row c.after_send.ensures

pub returns-in_default : goal.returns-in_default
returns-in_default g c = sym (lost (world_of c.args.world.now) c.args.handle (with_stack (after_send c.args.word c.args.answer.now)) (sym c.link_at.ensures.value ∙ c.in_default.is))
