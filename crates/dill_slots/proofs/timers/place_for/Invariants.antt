use Rattle.std.proofs.Common.{◌≡◌, ◌≤◌, take, false}
use Rattle.std.specs.List.{list_any}
use Rattle.dill_slots.specs.Slots.{is_earlier}
use Rattle.dill_slots.proofs.timers.place_for.Given as goal

abbrev pub invariant-loop-at : goal.invariant-loop-at
invariant-loop-at g l = record { none : list_any (is_earlier l.timer) (take l.at l.timers) ≡ false; counted : l.fn.steps ≤ l.steps }
