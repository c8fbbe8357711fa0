-- The least so far, and the least of the clauses that are left.
use Rattle.std.proofs.Common.{◌≡◌, drop}
use Rattle.dill_chan.specs.Seats.{of_ends, closer, ended_in}
use Rattle.dill_chan.proofs.waits.next_ended.Given as goal

abbrev pub invariant-loop-x : goal.invariant-loop-x
invariant-loop-x l = closer l.least (ended_in (of_ends l.ends) l.after (drop l.x-index l.waits)) ≡ ended_in (of_ends l.ends) l.after l.waits
