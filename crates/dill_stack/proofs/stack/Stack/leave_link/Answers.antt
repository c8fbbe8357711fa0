use Rattle.std.proofs.Common.{◌≡◌, ◌∙◌, [], ap, refl}
use Rattle.dill_stack.specs.Standing.{ends_of}
use Rattle.dill_stack.proofs.Drops.{stack_bare}
use Rattle.dill_stack.proofs.Endings.{none_ends}
use Rattle.dill_stack.proofs.stack.Stack.leave_link.Goals as goal

pub invariant_of-self : goal.invariant_of-self
invariant_of-self c = (
  stack_bare c.self.inside.terms.items c.self.inside.base c.self.inside.queue.room (none_ends c.self.inside.terms.items c.self.inside.base (ap (λ s. ends_of s.held.layers) c.self.view_is ∙ c.requires.bare)) c.self.invariant.0,
  (rw c.use_up.ensures c.self.invariant.1.0, tt),
)

pub returns : goal.returns
returns c =
    let e : c.self.inside.terms.items ≡ [] = none_ends c.self.inside.terms.items c.self.inside.base (ap (λ s. ends_of s.held.layers) c.self.view_is ∙ c.requires.bare) in
    rw (c.use_up.ensures) (rw (← c.self.view_is) (rw e refl))
