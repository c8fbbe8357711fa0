use Rattle.std.proofs.Common.{◌≡◌, filter_map, option_map, drop}
use Rattle.dill_rules.specs.Expiring as expiring
use Rattle.dill_steps.specs.Timing.{first_of, late_timer, as_timer}
use Rattle.dill_steps.proofs.expiring.first_late.Given as goal

abbrev pub invariant-loop-i : goal.invariant-loop-i
invariant-loop-i g l = option_map as_timer l.first ≡ first_of (expiring.in_order (filter_map (late_timer l.moment) (drop l.i l.coroutines)))
