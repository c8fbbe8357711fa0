use Rattle.dill_rules.specs.World.{is_coroutine}
use Rattle.dill_world.proofs.Finding.{found_plain}
use Rattle.dill_world.proofs.world.World.coroutine_of.Goals as goal

pub returns-clause-plain : goal.returns-clause-plain
returns-clause-plain g c = found_plain (is_coroutine c.args.who) c.coroutines.result.now c.find_coroutine.result c.coroutines.ensures.plain c.find_coroutine.ensures
