use Rattle.std.proofs.Common.{◌≡◌, ◌∙◌, max, sym, ap, refl, Some, None}
use Rattle.dill_stack.specs.contracts.stack.Stack.{the_view}
use Rattle.dill_stack.specs.Leaving.{step_of, joined_dropped}
use Rattle.dill_stack.specs.Standing.{base_layers, emptied_base, joined_bytes}
use Rattle.dill_stack.specs.Taking.{lowest}
use Rattle.dill_stack.proofs.Drops.{sifted_as, step_of_end, stack_at}
use Rattle.dill_stack.proofs.Seers.{emptied_stands, emptied_joins}
use Rattle.dill_stack.proofs.Sifts.{joined_tower, held_of_joined}
use Rattle.dill_stack.proofs.TowerReads.{lowest_below}
use Rattle.dill_stack.proofs.stack.Stack.drop_joined.Goals as goal

pub meet_end-step-requires : goal.meet_end-step-requires
meet_end-step-requires c = lowest_below c.self.inside.terms.items c.joined.result.now c.in-Some.at (ap (λ x. lowest x c.joined.result.now) (sym c.as_slice.ensures.value) ∙ sym c.in-Some.ensures)

pub invariant_of-self : goal.invariant_of-self
invariant_of-self c = (rw (c.meet_end-step.ensures.terms, c.empty.ensures) (stack_at c.in-Some.at c.self.inside.terms.items (emptied_base c.self.inside.base) c.self.inside.queue.room (emptied_stands c.self.inside.terms.items c.self.inside.base c.self.inside.queue.room c.self.invariant.0)), (c.self.invariant.1.0, rw c.empty.ensures (emptied_joins (max 16384 c.self.inside.most) c.self.inside.base c.self.invariant.1.1)))

pub invariant_of-self-in-None : goal.invariant_of-self-in-None
invariant_of-self-in-None c = (rw (c.empty-in-None.ensures) (emptied_stands c.self.inside.terms.items c.self.inside.base c.self.inside.queue.room c.self.invariant.0), (c.self.invariant.1.0, rw c.empty-in-None.ensures (emptied_joins (max 16384 c.self.inside.most) c.self.inside.base c.self.invariant.1.1)))

at_end : (c : goal.After-empty) → joined_dropped c.args.self.now.held ≡ sifted_as c.self.inside.terms.items 0 (base_layers (emptied_base c.self.inside.base)) (joined_bytes c.self.inside.base) (Some c.in-Some.at)
at_end c = joined_tower c.self.inside.terms.items c.self.inside.base c.args.self.now.held (Some c.in-Some.at) (ap (λ s. s.held.layers) (sym c.self.view_is)) (c.in-Some.ensures ∙ ap (λ x. lowest x c.joined.result.now) c.as_slice.ensures.value ∙ ap (lowest c.self.inside.terms.items) c.joined.ensures)

dropped : (c : goal.After-empty-in-None) → joined_dropped c.args.self.now.held ≡ sifted_as c.self.inside.terms.items 0 (base_layers (emptied_base c.self.inside.base)) (joined_bytes c.self.inside.base) None
dropped c = joined_tower c.self.inside.terms.items c.self.inside.base c.args.self.now.held None (ap (λ s. s.held.layers) (sym c.self.view_is)) (c.in-None.ensures ∙ ap (λ x. lowest x c.joined.result.now) c.as_slice.ensures.value ∙ ap (lowest c.self.inside.terms.items) c.joined.ensures)

pub returns-in-Some-clause-step : goal.returns-in-Some-clause-step
returns-in-Some-clause-step c = c.meet_end-step.ensures.step ∙ step_of_end c.self.inside.terms.items 0 (base_layers (emptied_base c.self.inside.base)) (joined_bytes c.self.inside.base) c.in-Some.at ∙ sym (ap step_of (at_end c))

pub returns-in-Some-clause-after : goal.returns-in-Some-clause-after
returns-in-Some-clause-after c = rw (c.empty.ensures, c.meet_end-step.ensures.terms) (rw (at_end c) (rw (← c.self.view_is) (held_of_joined c.self.inside.terms.items (base_layers (emptied_base c.self.inside.base)) (joined_bytes c.self.inside.base) c.in-Some.at (the_view c.self.inside))))

pub returns-in-None-clause-step : goal.returns-in-None-clause-step
returns-in-None-clause-step c = sym (ap step_of (dropped c))

pub returns-in-None-clause-after : goal.returns-in-None-clause-after
returns-in-None-clause-after c = rw (c.empty-in-None.ensures) (rw (dropped c) (rw (← c.self.view_is) refl))
