use Rattle.std.proofs.Common.{◌≡◌, ◌∙◌, length, ap, arith}
use Rattle.dill_calls.specs.declared.answer.Answer.TheVariants.{Fault}
use Rattle.dill_world.specs.Store.{world_of}
use Rattle.dill_steps.proofs.Counting.{crew, replied}
use Rattle.dill_steps.proofs.entering.enter.Goals as goal

pub returns-in-Some-Some-clause-few : goal.returns-in-Some-Some-clause-few
returns-in-Some-Some-clause-few g c = λ e.
    let same : length c.reply.new.self.coroutines ≡ length c.args.world.now.coroutines = ap crew c.reply.ensures ∙ replied (world_of c.args.world.now) c.args.who c.word.result (Fault c.in-Some-Some.errno) in
    omega (arith, same)

pub returns-in-Some-Some-clause-one : goal.returns-in-Some-Some-clause-one
returns-in-Some-Some-clause-one g c =
    let same : length c.reply.new.self.coroutines ≡ length c.args.world.now.coroutines = ap crew c.reply.ensures ∙ replied (world_of c.args.world.now) c.args.who c.word.result (Fault c.in-Some-Some.errno) in
    omega (arith, same)
