use Rattle.dill_core.proofs.Ends.{ends_turned, owes_fewer}
use Rattle.dill_core.proofs.stepping.CoreStepper.turn.Goals as goal

pub returns-clause-closed : goal.returns-clause-closed
returns-clause-closed g c = ends_turned g.B.Body.means c.root_debt_falls.ensures c.args.self.now c.turn_first.new.self c.turn_first.result.lack c.turn_first.ensures.after

pub returns-clause-fewer : goal.returns-clause-fewer
returns-clause-fewer g c = owes_fewer g.B.Body.means c.root_debt_falls.ensures c.args.self.now c.turn_first.new.self c.turn_first.result.lack c.turn_first.ensures.after c.requires.answered
