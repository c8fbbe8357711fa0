use Rattle.std.proofs.Common.{◌≡◌, ◌≤◌, ◌∙◌, arith, max, sym, ap, subst, refl, length}
use Rattle.dill_base.specs.declared.errno.Errno.TheVariants.{Epipe}
use Rattle.dill_calls.specs.declared.answer.Answer.TheVariants.{Bytes}
use Rattle.dill_stack.specs.declared.want.ReadOut.TheVariants.{Given, Fault}
use Rattle.dill_stack.specs.Read.{outcome}
use Rattle.dill_stack.specs.Rooms.{Stocked}
use Rattle.dill_stack.specs.Seeing.{joined_given, joined_in}
use Rattle.dill_stack.specs.Standing.{base_layers, tower, emptied_base, joined_bytes}
use Rattle.dill_stack.specs.Taking.{lowest, meet}
use Rattle.dill_stack.proofs.Seers.{given_end, given_all, joined_in_tower, emptied_stands, emptied_joins}
use Rattle.dill_stack.proofs.TowerReads.{stack_meet, lowest_below}
use Rattle.dill_stack.proofs.stack.Stack.give_joined.Goals as goal

pub meet_at-requires : goal.meet_at-requires
meet_at-requires c = lowest_below c.self.inside.terms.items c.joined.result.now c.in-Some.at (ap (λ x. lowest x c.joined.result.now) (sym c.as_slice.ensures.value) ∙ sym c.in-Some.ensures)

pub invariant_of-self : goal.invariant_of-self
invariant_of-self c = (rw (c.meet_at.ensures, c.empty.ensures) (stack_meet c.in-Some.at c.self.inside.terms.items (emptied_base c.self.inside.base) c.self.inside.queue.room (emptied_stands c.self.inside.terms.items c.self.inside.base c.self.inside.queue.room c.self.invariant.0)), (c.self.invariant.1.0, rw c.empty.ensures (emptied_joins (max 16384 c.self.inside.most) c.self.inside.base c.self.invariant.1.1)))

pub give-given-requires : goal.give-given-requires
give-given-requires c = rw (c.joined-in-None.ensures) (rw (← joined_in_tower c.self.inside.terms.items c.self.inside.base) (subst (λ (s : Stocked). length (joined_in s.held.layers) ≤ c.args.room.now.first) (sym c.self.view_is) c.requires))

pub invariant_of-self-in-None : goal.invariant_of-self-in-None
invariant_of-self-in-None c = (rw (c.empty-in-None.ensures) (emptied_stands c.self.inside.terms.items c.self.inside.base c.self.inside.queue.room c.self.invariant.0), (c.self.invariant.1.0, rw (c.empty-in-None.ensures) (emptied_joins (max 16384 c.self.inside.most) c.self.inside.base c.self.invariant.1.1)))

at_end : (c : goal.After-empty) → joined_given c.args.self.now.held ≡ outcome 0 (tower (meet c.in-Some.at c.self.inside.terms.items) (base_layers (emptied_base c.self.inside.base))) (Fault Epipe)
at_end c = given_end c.self.inside.terms.items c.self.inside.base c.args.self.now.held c.in-Some.at (ap (λ s. s.held.layers) (sym c.self.view_is)) (c.in-Some.ensures ∙ ap (λ x. lowest x c.joined.result.now) c.as_slice.ensures.value ∙ ap (lowest c.self.inside.terms.items) c.joined.ensures)

passed : (c : goal.After-empty-in-None) → joined_given c.args.self.now.held ≡ outcome 0 (tower c.self.inside.terms.items (base_layers (emptied_base c.self.inside.base))) (Given (Bytes (joined_bytes c.self.inside.base)))
passed c = given_all c.self.inside.terms.items c.self.inside.base c.args.self.now.held (ap (λ s. s.held.layers) (sym c.self.view_is)) (c.in-None.ensures ∙ ap (λ x. lowest x c.joined.result.now) c.as_slice.ensures.value ∙ ap (lowest c.self.inside.terms.items) c.joined.ensures)

pub returns-in-Some-clause-said : goal.returns-in-Some-clause-said
returns-in-Some-clause-said c = sym (ap (λ o. o.said) (at_end c))

pub returns-in-Some-clause-after : goal.returns-in-Some-clause-after
returns-in-Some-clause-after c = rw (c.empty.ensures, c.meet_at.ensures) (rw (at_end c) (rw (← c.self.view_is) refl))

pub returns-in-None-clause-said : goal.returns-in-None-clause-said
returns-in-None-clause-said c = ap (λ m. Given (Bytes m)) (c.give-given.ensures ∙ c.joined-in-None.ensures) ∙ sym (ap (λ o. o.said) (passed c))

pub returns-in-None-clause-after : goal.returns-in-None-clause-after
returns-in-None-clause-after c = rw c.empty-in-None.ensures (rw (passed c) (rw (← c.self.view_is) refl))

pub returns-in-None-clause-within : goal.returns-in-None-clause-within
returns-in-None-clause-within c = omega (arith, ap length (c.give-given.ensures ∙ c.joined-in-None.ensures ∙ sym (joined_in_tower c.self.inside.terms.items c.self.inside.base) ∙ ap (λ (s : Stocked). joined_in s.held.layers) c.self.view_is))
