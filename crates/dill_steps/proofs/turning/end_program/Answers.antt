use Rattle.std.proofs.Common.{◌≡◌, ◌∙◌, length, ap, arith}
use Rattle.dill_world.specs.Store.{world_of}
use Rattle.dill_steps.proofs.Counting.{crew, ended}
use Rattle.dill_steps.proofs.turning.end_program.Goals as goal

pub returns-clause-few : goal.returns-clause-few
returns-clause-few g c =
    let same : length c.end.new.self.coroutines ≡ length c.args.world.now.coroutines = ap crew c.end.ensures ∙ ended (world_of c.args.world.now) c.args.who c.args.outcome in
    omega (arith, same)
