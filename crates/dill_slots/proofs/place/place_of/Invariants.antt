use Rattle.std.proofs.Common.{◌≡◌, ◌<◌, take, false}
use Rattle.std.specs.List.{list_any}
use Rattle.dill_slots.specs.Slots.{is_slot}
use Rattle.dill_slots.proofs.place.place_of.Given as goal

abbrev pub invariant-loop-at : goal.invariant-loop-at
invariant-loop-at g l = record { none : list_any (is_slot l.slot) (take l.at l.live) ≡ false; counted : l.fn.steps < l.steps }
