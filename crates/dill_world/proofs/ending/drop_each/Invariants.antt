use Rattle.std.proofs.Common.{◌≡◌, drop}
use Rattle.dill_world.specs.Freeings.{drop_each}
use Rattle.dill_world.proofs.ending.drop_each.Given as goal

abbrev pub invariant-loop-x : goal.invariant-loop-x
invariant-loop-x l = drop_each l.scopes (drop l.x-index l.closings) ≡ drop_each l.fn.scopes l.closings
