-- The least so far, and the least of the links that are left.
use Rattle.std.proofs.Common.{◌≡◌, drop}
use Rattle.dill_pollset.specs.Watching.{lesser, next_due}
use Rattle.dill_pollset.proofs.pollset.Pollset.next_due.Given as goal

abbrev pub invariant-loop-x : goal.invariant-loop-x
invariant-loop-x l = lesser l.least (next_due l.read l.after (drop l.x-index l.self.interests)) ≡ next_due l.read l.after l.self.interests
