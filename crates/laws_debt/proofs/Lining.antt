-- What a place in the queue leaves of a mode.
use Rattle.dill_rules.specs.declared.coroutine.Mode.{Mode}
use Rattle.dill_rules.specs.declared.coroutine.Mode.TheVariants as modes
use Rattle.dill_rules.specs.State.{lined_mode}
use Rattle.laws_debt.specs.Says.{LowersIn}

pub lowers_lined : (mode : Mode) → LowersIn mode → LowersIn (lined_mode mode)
lowers_lined (modes.Pending call) l = tt
lowers_lined modes.Running l = tt
lowers_lined (modes.Fresh word answer) l = l
lowers_lined (modes.Answered word answer) l = l
lowers_lined (modes.Ending outcome) l = tt
