use Rattle.std.proofs.Common.{◌≡◌, ◌≤◌, ◌*◌, [], length}
use Rattle.stack_tests.proofs.acts.bare.Given as goal

abbrev pub invariant-loop-before : goal.invariant-loop-before
invariant-loop-before l = record {
  layers : l.stack.held.layers ≡ [];
  few : length l.stack.held.unread ≤ 4096 * l.before;
}
