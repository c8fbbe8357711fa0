use Rattle.std.proofs.Common.{◌≡◌, ◌+◌, ◌≤◌, ◌++◌, length, drop, vec_capacity}
use Rattle.dill_world.specs.Releases.{freed, falling}
use Rattle.dill_world.proofs.ending.note_freed.Given as goal

abbrev pub invariant-loop-i : goal.invariant-loop-i
invariant-loop-i l = record {
  items : l.notes.items ≡ l.fn.notes.items ++ freed (falling l.who (drop l.i l.entries));
  room : length l.notes.items + l.i ≤ vec_capacity l.notes;
  capacity : vec_capacity l.notes ≡ vec_capacity l.fn.notes;
}
