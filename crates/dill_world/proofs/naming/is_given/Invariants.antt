use Rattle.std.proofs.Common.{◌≡◌, ◌==◌, drop}
use Rattle.std.specs.List.{list_any}
use Rattle.dill_rules.specs.Naming.{gifts_of}
use Rattle.dill_world.proofs.naming.is_given.Given as goal

abbrev pub invariant-loop-arg : goal.invariant-loop-arg
invariant-loop-arg l = list_any (λ n. n == l.number) (gifts_of (drop l.arg-index l.args)) ≡ list_any (λ n. n == l.number) (gifts_of l.args)
