use Rattle.std.proofs.Common.{◌∙◌, sym, ap}
use Rattle.dill_rules.specs.Giving.{give_attached}
use Rattle.dill_world.specs.Store.{world_of}
use Rattle.dill_giving.proofs.Answered.{fault_is}
use Rattle.dill_giving.proofs.giving.give_unattached.Goals as goal

pub returns-in-Some : goal.returns-in-Some
returns-in-Some g c = λ call is. c.give_attached.ensures call is ∙ sym (ap (give_attached (world_of c.args.world.now) c.args.who call) (fault_is c.args.answer c.in-Some.errno (sym c.fault_in.ensures ∙ c.in-Some.is)))
