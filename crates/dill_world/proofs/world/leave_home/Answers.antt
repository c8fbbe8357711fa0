use Rattle.std.proofs.Common.{sym}
use Rattle.dill_world.proofs.Leaving.{nobody_left}
use Rattle.dill_world.proofs.world.leave_home.Goals as goal

pub returns-in-None : goal.returns-in-None
returns-in-None c = nobody_left c.args.forest.now c.args.who (sym c.in-None.ensures)
