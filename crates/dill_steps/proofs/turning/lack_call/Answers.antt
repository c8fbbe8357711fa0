use Rattle.std.proofs.Common.{◌≡◌, ◌∙◌, length, ap, arith}
use Rattle.dill_world.specs.Store.{world_of}
use Rattle.dill_calls.specs.declared.answer.Answer.TheVariants.{Fault}
use Rattle.dill_steps.proofs.Counting.{crew, replied}
use Rattle.dill_steps.proofs.turning.lack_call.Goals as goal

pub returns-clause-few : goal.returns-clause-few
returns-clause-few g c =
    let same : length c.reply.new.self.coroutines ≡ length c.args.world.now.coroutines = ap crew c.reply.ensures ∙ replied (world_of c.args.world.now) c.args.who c.args.word (Fault c.lack_fault-errno.result) in
    omega (arith, same)
