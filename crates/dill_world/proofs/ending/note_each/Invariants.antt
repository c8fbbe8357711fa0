use Rattle.std.proofs.Common.{◌≡◌, ◌+◌, ◌≤◌, ◌++◌, length, drop, vec_capacity}
use Rattle.dill_world.specs.Freeings.{notes_of}
use Rattle.dill_world.proofs.ending.note_each.Given as goal

abbrev pub invariant-loop-x : goal.invariant-loop-x
invariant-loop-x l = record {
  items : l.notes.items ++ notes_of (drop l.x-index l.closings) ≡ l.fn.notes.items ++ notes_of l.closings;
  room : length l.notes.items + length (drop l.x-index l.closings) ≤ vec_capacity l.notes;
  capacity : vec_capacity l.notes ≡ vec_capacity l.fn.notes;
}
