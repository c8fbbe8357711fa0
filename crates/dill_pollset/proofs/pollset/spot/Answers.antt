use Rattle.std.proofs.Common.{sym, ◌∙◌}
use Rattle.dill_pollset.specs.Watching.{fresh}
use Rattle.dill_pollset.proofs.Placing.{spot, end}
use Rattle.dill_pollset.proofs.pollset.spot.Goals as goal

pub returns-in-Some-clause-spot : goal.returns-in-Some-clause-spot
returns-in-Some-clause-spot c = spot (fresh c.args.link) c.args.interests.now c.in-Some.at (sym c.in-Some.ensures.place)

pub returns-in-None-clause-spot : goal.returns-in-None-clause-spot
returns-in-None-clause-spot c = end (fresh c.args.link) c.args.interests.now 0 (sym c.first_above.ensures.place ∙ c.in-None.is)
