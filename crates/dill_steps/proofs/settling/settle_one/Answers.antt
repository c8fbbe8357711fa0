use Rattle.std.proofs.Common.{◌≤◌, length, subst, sym}
use Rattle.dill_world.specs.Store.{world_of}
use Rattle.dill_steps.proofs.Counting.{crew, finished}
use Rattle.dill_steps.proofs.settling.settle_one.Goals as goal

pub returns-in-Some-clause-few : goal.returns-in-Some-clause-few
returns-in-Some-clause-few g c = subst (λ v. crew v ≤ length c.args.world.now.coroutines) (sym c.finish.ensures) (finished (world_of c.args.world.now) c.in-Some.who c.in-Some.outcome)
