use Rattle.std.proofs.Common.{◌≡◌, ◌-◌, ◌∙◌, ◌≤◌, sym, ap, subst, take, drop, refl, length, Some, None}
use Rattle.dill_stack.specs.Rooms.{Stocked}
use Rattle.dill_stack.specs.contracts.stack.Stack.{the_view}
use Rattle.dill_stack.specs.Standing.{base_layers, ends_of}
use Rattle.dill_stack.specs.Taking.{lowest}
use Rattle.dill_stack.specs.Leaving.{step_of, sifted_message}
use Rattle.dill_stack.proofs.TowerReads.{lowest_below}
use Rattle.dill_stack.proofs.Drops.{sifts_by, sifted_as, step_of_end, held_of_end, stack_at, tall_of}
use Rattle.dill_stack.proofs.stack.Stack.drop_message.Goals as goal

pub meet_end-step-requires : goal.meet_end-step-requires
meet_end-step-requires c = lowest_below c.self.inside.terms.items (take (c.args.to - c.args.from) (drop c.args.from c.as_slice.result.now)) c.in-Some.at (ap (λ x. lowest x (take (c.args.to - c.args.from) (drop c.args.from c.as_slice.result.now))) (sym c.as_slice-2.ensures.value) ∙ sym c.in-Some.ensures)

pub invariant_of-self : goal.invariant_of-self
invariant_of-self c = (rw c.meet_end-step.ensures.terms (stack_at c.in-Some.at c.self.inside.terms.items c.self.inside.base c.self.inside.queue.room c.self.invariant.0), rw c.use_up.ensures c.self.invariant.1)

-- an end is the message
at_end : (c : goal.After-use_up) → sifted_message c.args.from c.args.to c.args.used c.args.self.now.held ≡ sifted_as c.self.inside.terms.items c.args.used (base_layers c.self.inside.base) (take (c.args.to - c.args.from) (drop c.args.from c.self.inside.unread.items)) (Some c.in-Some.at)
at_end c = rw (← c.self.view_is) (sifts_by c.self.inside.terms.items c.self.inside.base c.args.used (take (c.args.to - c.args.from) (drop c.args.from c.self.inside.unread.items)) (Some c.in-Some.at) (tall_of c.self.inside.terms.items c.self.inside.base (subst (λ (s : Stocked). 1 ≤ length (ends_of s.held.layers)) (sym c.self.view_is) c.requires.top)) (c.in-Some.ensures ∙ ap (λ x. lowest x (take (c.args.to - c.args.from) (drop c.args.from c.as_slice.result.now))) c.as_slice-2.ensures.value ∙ ap (λ x. lowest c.self.inside.terms.items (take (c.args.to - c.args.from) (drop c.args.from x))) c.as_slice.ensures))

-- none is
dropped : (c : goal.After-use_up-in-None) → sifted_message c.args.from c.args.to c.args.used c.args.self.now.held ≡ sifted_as c.self.inside.terms.items c.args.used (base_layers c.self.inside.base) (take (c.args.to - c.args.from) (drop c.args.from c.self.inside.unread.items)) None
dropped c = rw (← c.self.view_is) (sifts_by c.self.inside.terms.items c.self.inside.base c.args.used (take (c.args.to - c.args.from) (drop c.args.from c.self.inside.unread.items)) None (tall_of c.self.inside.terms.items c.self.inside.base (subst (λ (s : Stocked). 1 ≤ length (ends_of s.held.layers)) (sym c.self.view_is) c.requires.top)) (c.in-None.ensures ∙ ap (λ x. lowest x (take (c.args.to - c.args.from) (drop c.args.from c.as_slice.result.now))) c.as_slice-2.ensures.value ∙ ap (λ x. lowest c.self.inside.terms.items (take (c.args.to - c.args.from) (drop c.args.from x))) c.as_slice.ensures))

pub returns-in-Some-clause-step : goal.returns-in-Some-clause-step
returns-in-Some-clause-step c = c.meet_end-step.ensures.step ∙ step_of_end c.self.inside.terms.items c.args.used (base_layers c.self.inside.base) (take (c.args.to - c.args.from) (drop c.args.from c.self.inside.unread.items)) c.in-Some.at ∙ sym (ap step_of (at_end c))

pub returns-in-Some-clause-after : goal.returns-in-Some-clause-after
returns-in-Some-clause-after c = rw (c.use_up.ensures, c.meet_end-step.ensures.terms) (rw (at_end c) (rw (← c.self.view_is) (held_of_end c.self.inside.terms.items c.args.used (base_layers c.self.inside.base) (take (c.args.to - c.args.from) (drop c.args.from c.self.inside.unread.items)) c.in-Some.at (the_view c.self.inside))))

pub returns-in-None-clause-step : goal.returns-in-None-clause-step
returns-in-None-clause-step c = sym (ap step_of (dropped c))

pub returns-in-None-clause-after : goal.returns-in-None-clause-after
returns-in-None-clause-after c = rw (c.use_up-in-None.ensures) (rw (dropped c) (rw (← c.self.view_is) refl))
