use Rattle.std.proofs.Common.{◌≡◌, drop}
use Rattle.dill_world.specs.Closings.{retire_each, close_each}
use Rattle.dill_world.proofs.ending.close_each.Given as goal

abbrev pub invariant-loop-x : goal.invariant-loop-x
invariant-loop-x l = record {
  handles : retire_each l.handles (drop l.x-index l.closings) ≡ retire_each l.fn.handles l.closings;
  scopes : close_each l.who l.scopes (drop l.x-index l.closings) ≡ close_each l.who l.fn.scopes l.closings;
}
