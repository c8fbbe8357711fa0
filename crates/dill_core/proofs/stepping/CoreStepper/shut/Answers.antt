use Rattle.dill_core.proofs.Ends.{ends_shut, owes_few}
use Rattle.dill_core.proofs.stepping.CoreStepper.shut.Goals as goal

pub returns-clause-closed : goal.returns-clause-closed
returns-clause-closed g c = ends_shut g.B.Body.means c.root_debt_falls.ensures c.args.self.now c.close_root.new.self c.close_root.ensures.after c.close_root.ensures.stable

pub returns-clause-few : goal.returns-clause-few
returns-clause-few g c = owes_few g.B.Body.means c.root_debt_falls.ensures c.close_root.new.self (returns-clause-closed g c)
