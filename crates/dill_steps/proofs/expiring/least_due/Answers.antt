use Rattle.std.proofs.Common.{sym, ap, ◌∙◌, min}
use Rattle.std.specs.List.{reduce}
use Rattle.dill_steps.proofs.Lists.{dues}
use Rattle.dill_steps.proofs.expiring.least_due.Goals as goal

pub returns : goal.returns
returns g c = rw c.coroutines.ensures.rows at c.least_of.ensures ∙ ap (reduce min) (sym (dues c.args.world.now.coroutines))
