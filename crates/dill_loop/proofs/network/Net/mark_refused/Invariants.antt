use Rattle.std.proofs.Common.{◌≡◌, ◌≤◌, drop, filter, vec_capacity}
use Rattle.dill_loop.specs.Calls.{with_refused_marks}
use Rattle.dill_loop.specs.Network.{waits_at}
use Rattle.dill_loop.specs.Consistent.{IsConsistent}
use Rattle.dill_loop.specs.Store.{network_of}
use Rattle.dill_loop.proofs.network.Net.mark_refused.Given as goal

abbrev pub invariant-loop-at : goal.invariant-loop-at
invariant-loop-at l = record {
  network : with_refused_marks (filter (waits_at l.listener) (drop l.at l.fn.self.pairs.items)) (network_of l.self) ≡ with_refused_marks (filter (waits_at l.listener) l.fn.self.pairs.items) (network_of l.fn.self);
  consistent : IsConsistent (network_of l.self);
  pairs : l.self.pairs.items ≡ l.fn.self.pairs.items;
  listeners : l.self.listeners.items ≡ l.fn.self.listeners.items;
  capacity : vec_capacity l.fn.self.marks ≤ vec_capacity l.self.marks;
}
