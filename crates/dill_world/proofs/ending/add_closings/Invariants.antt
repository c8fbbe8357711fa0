use Rattle.std.proofs.Common.{◌≡◌, ◌+◌, ◌≤◌, ◌++◌, length, drop, vec_capacity}
use Rattle.dill_world.specs.Closings.{closings_of}
use Rattle.dill_world.proofs.ending.add_closings.Given as goal

abbrev pub invariant-loop-entry : goal.invariant-loop-entry
invariant-loop-entry l = record {
  items : l.closings.items ++ closings_of l.who (drop l.entry-index l.entries) ≡ l.fn.closings.items ++ closings_of l.who l.entries;
  room : length l.closings.items + length (drop l.entry-index l.entries) ≤ vec_capacity l.closings;
  capacity : vec_capacity l.closings ≡ vec_capacity l.fn.closings;
}
