use Rattle.std.proofs.Common.{◌≡◌, drop}
use Rattle.dill_rules.specs.Naming.{gifts_of}
use Rattle.dill_rules.specs.Refusals.{has_twice}
use Rattle.dill_world.proofs.naming.gives_twice.Given as goal

abbrev pub invariant-loop-i : goal.invariant-loop-i
invariant-loop-i l = has_twice (gifts_of (drop l.i l.args)) ≡ has_twice (gifts_of l.args)
