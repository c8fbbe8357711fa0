use Rattle.dill_world.proofs.Finding.{in_use}
use Rattle.dill_world.proofs.world.World.is_in_use.Goals as goal

pub returns-in-Some : goal.returns-in-Some
returns-in-Some g c =
    in_use c.args.self.now c.args.call.now c.in-Some.number c.word-word.result c.coroutines.result.now c.is_in_some_use.result c.in-Some.ensures c.word-word.ensures c.coroutines.ensures.rows c.is_in_some_use.ensures
