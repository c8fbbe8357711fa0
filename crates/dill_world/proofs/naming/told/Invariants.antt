use Rattle.std.proofs.Common.{◌≡◌, ◌+◌, ◌++◌, ◌<◌, ◌^◌, length, drop}
use Rattle.dill_rules.specs.Naming.{gifts_of}
use Rattle.dill_rules.specs.Effects.{told}
use Rattle.dill_world.proofs.naming.told.Given as goal

abbrev pub invariant-loop-arg : goal.invariant-loop-arg
invariant-loop-arg l = record {
  fits : l.new + length (gifts_of (drop l.arg-index l.args)) < 2 ^ 64;
  told : l.numbers.items ++ told l.new (drop l.arg-index l.args) ≡ told l.next l.args;
}
