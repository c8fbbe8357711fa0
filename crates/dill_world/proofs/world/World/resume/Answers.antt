use Rattle.dill_world.proofs.Running.{resumed}
use Rattle.dill_world.proofs.world.World.resume.Goals as goal

pub returns : goal.returns
returns g c =
    rw (← c.self.view_is) (resumed g.B.Body.means _ c.run_at.new.coroutines.items c.args.who c.args.given c.run_at.result c.run_at.ensures.runs)
