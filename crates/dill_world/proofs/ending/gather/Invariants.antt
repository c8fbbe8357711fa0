use Rattle.std.proofs.Common.{◌≡◌, ◌+◌, ◌≤◌, ◌++◌, length, take, drop, vec_capacity}
use Rattle.dill_world.specs.Freeings.{others_of}
use Rattle.dill_world.specs.Gathering.{gathered}
use Rattle.dill_world.proofs.ending.gather.Given as goal

-- those from here on are gathered
abbrev pub invariant-loop-i : goal.invariant-loop-i
invariant-loop-i l = record {
  items : l.closings.items ≡ take l.i l.fn.closings.items ++ gathered l.scopes l.who (drop l.i l.fn.closings.items);
  from : l.from ≡ l.i + length (others_of l.scopes l.who (drop l.i l.fn.closings.items));
  len : length l.closings.items ≡ length l.fn.closings.items;
  capacity : vec_capacity l.fn.closings ≤ vec_capacity l.closings;
}
