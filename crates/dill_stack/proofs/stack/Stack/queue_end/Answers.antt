use Rattle.std.proofs.Common.{◌≤◌, sym, subst, length, List}
use Rattle.dill_stack.specs.Doing.{IsKey, below_end}
use Rattle.dill_stack.specs.Layers.{TermLayer}
use Rattle.dill_stack.specs.Rooms.{Stocked}
use Rattle.dill_stack.proofs.Endings.{ends_top}
use Rattle.dill_stack.proofs.stack.Stack.queue_end.Goals as goal

pub returns-in-len1-up-clause-due : goal.returns-in-len1-up-clause-due
returns-in-len1-up-clause-due c = λ random k. rw (c.push_ending.ensures.queued, c.push_ending.ensures.done) (rw (← c.self.view_is) (ends_top c.args.key c.self.inside.terms.items c.self.inside.base random _ (subst (λ (ts : List TermLayer). 1 ≤ length ts) c.as_slice.ensures.value c.in-len1-up.len_at_least) c.self.invariant.0.ends (subst (λ (s : Stocked). IsKey c.args.key (below_end s.held.layers) random) (sym c.self.view_is) k)))
