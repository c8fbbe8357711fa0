use Rattle.std.proofs.Common.{◌≡◌, ◌≤◌, true}
use Rattle.link_bench.specs.Below.{all_below}
use Rattle.link_bench.proofs.due.watched.Given as goal

abbrev pub invariant-loop-link : goal.invariant-loop-link
invariant-loop-link l = record {
  below : all_below l.link l.set.interests ≡ true;
  within : l.link ≤ l.last;
}
