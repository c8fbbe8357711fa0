use Rattle.std.proofs.Common.{◌≡◌, ◌≤◌, take, false}
use Rattle.std.specs.List.{list_any}
use Rattle.dill_slots.specs.Slots.{is_timer_of}
use Rattle.dill_slots.proofs.timers.place_of_slot.Given as goal

abbrev pub invariant-loop-at : goal.invariant-loop-at
invariant-loop-at g l = record { none : list_any (is_timer_of l.slot) (take l.at l.timers) ≡ false; counted : l.fn.steps ≤ l.steps }
