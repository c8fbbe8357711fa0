use Rattle.std.proofs.Common.{refl}
use Rattle.dill_loop.specs.Steps.{network_reply, network_after}
use Rattle.dill_loop.proofs.worked.rows.Goals as goal

pub returns-clause-waits : goal.returns-clause-waits
unfolding network_reply network_after
returns-clause-waits c = record {
  none = refl;
  for_ever = refl;
  told_once = refl;
  first_told = refl;
  in_order = refl;
}

pub returns-clause-links : goal.returns-clause-links
unfolding network_reply network_after
returns-clause-links c = record {
  in_use = refl;
  there = refl;
  refused = refl;
  finished = refl;
  accepted = refl;
  room_again = refl;
  other_sort = refl;
}

pub returns-clause-bytes : goal.returns-clause-bytes
unfolding network_reply network_after
returns-clause-bytes c = record {
  moved = refl;
  small_buffer = refl;
  queued_no_mark = refl;
  shut = refl;
}

pub returns-clause-full : goal.returns-clause-full
unfolding network_reply network_after
returns-clause-full c = record {
  no_room = refl;
  not_full = refl;
}

pub returns-clause-closes : goal.returns-clause-closes
unfolding network_reply network_after
returns-clause-closes c = record {
  both_marks = refl;
  own_marks = refl;
  full_writer = refl;
  listener = refl;
  connector_gone = refl;
  nothing_left = refl;
}
