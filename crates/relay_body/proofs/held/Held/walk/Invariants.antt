-- The walk that is left is the walk that was begun.
use Rattle.std.proofs.Common.{◌≡◌, ◌≤◌, ◌-◌, length}
use Rattle.dill_meaning.specs.Views.{ahead, statements_of}
use Rattle.dill_meaning.specs.Walks.{walk}
use Rattle.relay_body.specs.Depths.{IsWalking}
use Rattle.relay_body.specs.Modes.{meant, depth_of}
use Rattle.relay_body.specs.Seen.{seen}
use Rattle.relay_body.proofs.held.Held.walk.Given as goal

abbrev pub invariant-loop-mode : goal.invariant-loop-mode
invariant-loop-mode l = record {
  walking : IsWalking (meant l.mode) (seen l.self);
  depth : depth_of l.mode ≤ l.self.passed;
  same : walk (meant l.fn.mode) (seen l.fn.self) (ahead (seen l.fn.self)) ≡ walk (meant l.mode) (seen l.self) (ahead (seen l.self));
}

abbrev pub decreases-loop-mode : goal.decreases-loop-mode
decreases-loop-mode l = length (statements_of (seen l.self)) - l.self.passed
