use Rattle.std.proofs.Common.{◌∙◌, sym, ap}
use Rattle.dill_rules.specs.World.{reply}
use Rattle.dill_world.specs.Store.{world_of}
use Rattle.dill_giving.proofs.Answered.{gave_closed}
use Rattle.dill_giving.proofs.giving.give_closed.Goals as goal

pub returns : goal.returns
returns g c = λ call is. c.reply.ensures ∙ (ap (λ u. reply u c.args.who c.args.asked.word c.args.answer) c.release_all.ensures ∙ sym (gave_closed (world_of c.args.world.now) c.args.who call c.args.asked is c.args.answer))
