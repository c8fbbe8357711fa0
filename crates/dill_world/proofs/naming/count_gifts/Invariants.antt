use Rattle.std.proofs.Common.{◌≡◌, ◌+◌, ◌≤◌, length, drop}
use Rattle.dill_rules.specs.Naming.{gifts_of}
use Rattle.dill_world.proofs.naming.count_gifts.Given as goal

abbrev pub invariant-loop-arg : goal.invariant-loop-arg
invariant-loop-arg l = record {
  few : l.count ≤ l.arg-index;
  sum : l.count + length (gifts_of (drop l.arg-index l.args)) ≡ length (gifts_of l.args);
}
