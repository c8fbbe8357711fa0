use Rattle.std.proofs.Common.{◌≡◌, ◌-◌, ◌∙◌, arith, sym, ap, subst, true}
use Rattle.dill_base.specs.declared.errno.Errno.TheVariants.{Epipe}
use Rattle.dill_stack.specs.declared.want.ReadOut.TheVariants.{Fault}
use Rattle.dill_stack.specs.declared.want.Want.TheVariants.{Message}
use Rattle.dill_stack.specs.Layers.{HasMessages}
use Rattle.dill_stack.specs.Rooms.{Stocked}
use Rattle.dill_stack.specs.Read.{outcome, read_list, no_more}
use Rattle.dill_stack.specs.Receiving.{read_of, ws_of}
use Rattle.dill_stack.specs.Standing.{base_layers}
use Rattle.dill_stack.specs.Taking.{after, any_met, taken, base_front}
use Rattle.dill_stack.specs.Answering.{sizes}
use Rattle.dill_stack.proofs.Copies.{fits_more}
use Rattle.dill_stack.proofs.TowerReads.{read_met, reads_whole, reads_need, reads_fault, stays_met, need_after, framing_base}
use Rattle.dill_stack.proofs.stack.Stack.read_framed.Goals as goal

-- an end was met before
was_met : (c : goal.Then-any_met) → read_of (Message c.args.limit) c.args.self.now.held ≡ outcome 0 c.args.self.now.held.layers (Fault Epipe)
unfolding read_list
was_met c = rw (← c.self.view_is) (read_met c.self.inside.terms.items (base_layers c.self.inside.base) c.self.inside.unread.items c.self.inside.receiving.done c.args.limit (ap any_met (sym c.as_slice.ensures.value) ∙ sym c.any_met.ensures ∙ c.if-any_met.true))

pub returns-then-any_met-clause-said : goal.returns-then-any_met-clause-said
returns-then-any_met-clause-said c = sym (ap (λ o. o.said) (was_met c))

pub returns-then-any_met-clause-after : goal.returns-then-any_met-clause-after
returns-then-any_met-clause-after c = stays_met c.args.self.now _ (was_met c)

was_whole : (c : goal.After-take_message) → read_of (Message c.args.limit) c.args.self.now.held ≡ taken c.in-Whole.from c.in-Whole.to c.in-Whole.used c.args.self.now.held
unfolding read_list
was_whole c = rw (← c.self.view_is) (reads_whole c.self.inside.terms.items c.self.inside.base c.self.inside.unread.items c.self.inside.receiving.done c.args.limit c.in-Whole.from c.in-Whole.to c.in-Whole.used (framing_base c.self.inside.terms.items c.self.inside.base c.self.invariant.0.based (subst (λ (s : Stocked). HasMessages s.held.layers) (sym c.self.view_is) c.requires.fits) (ap (λ s. ws_of s.held.layers) c.self.view_is ∙ c.requires.plain)) (ap any_met (sym c.as_slice.ensures.value) ∙ sym c.any_met.ensures ∙ c.if-any_met.false) (c.in-Whole.ensures.front ∙ ap (λ x. base_front c.self.inside.base x c.args.limit) c.as_slice-2.ensures))

was_open : (c : goal.After-nothing_whole) → read_of (Message c.args.limit) c.args.self.now.held ≡ outcome 0 c.args.self.now.held.layers (no_more c.args.self.now.held.receiving.done true c.args.self.now.held.unread)
unfolding read_list
was_open c = rw (← c.self.view_is) (reads_need c.self.inside.terms.items c.self.inside.base c.self.inside.unread.items c.self.inside.receiving.done c.args.limit (framing_base c.self.inside.terms.items c.self.inside.base c.self.invariant.0.based (subst (λ (s : Stocked). HasMessages s.held.layers) (sym c.self.view_is) c.requires.fits) (ap (λ s. ws_of s.held.layers) c.self.view_is ∙ c.requires.plain)) (ap any_met (sym c.as_slice.ensures.value) ∙ sym c.any_met.ensures ∙ c.if-any_met.false) (c.in-Need.ensures.front ∙ ap (λ x. base_front c.self.inside.base x c.args.limit) c.as_slice-2.ensures))

was_fault : (c : goal.After-refuse) → read_of (Message c.args.limit) c.args.self.now.held ≡ outcome 0 c.args.self.now.held.layers (Fault c.in-Fault.e)
unfolding read_list
was_fault c = rw (← c.self.view_is) (reads_fault c.self.inside.terms.items c.self.inside.base c.self.inside.unread.items c.self.inside.receiving.done c.args.limit c.in-Fault.e (framing_base c.self.inside.terms.items c.self.inside.base c.self.invariant.0.based (subst (λ (s : Stocked). HasMessages s.held.layers) (sym c.self.view_is) c.requires.fits) (ap (λ s. ws_of s.held.layers) c.self.view_is ∙ c.requires.plain)) (ap any_met (sym c.as_slice.ensures.value) ∙ sym c.any_met.ensures ∙ c.if-any_met.false) (c.in-Fault.ensures.front ∙ ap (λ x. base_front c.self.inside.base x c.args.limit) c.as_slice-2.ensures))

pub returns-in-Whole-clause-said : goal.returns-in-Whole-clause-said
returns-in-Whole-clause-said c = c.take_message.ensures.said ∙ sym (ap (λ o. o.said) (was_whole c))

pub returns-in-Whole-clause-after : goal.returns-in-Whole-clause-after
returns-in-Whole-clause-after c = c.take_message.ensures.after ∙ sym (ap (λ o. after o c.args.self.now) (was_whole c))

pub returns-in-Need-clause-said : goal.returns-in-Need-clause-said
returns-in-Need-clause-said c = c.nothing_whole.ensures.said ∙ sym (ap (λ o. o.said) (was_open c))

pub returns-in-Need-clause-after : goal.returns-in-Need-clause-after
returns-in-Need-clause-after c = c.nothing_whole.ensures.after ∙ need_after c.args.self.now (read_of (Message c.args.limit) c.args.self.now.held) c.nothing_whole.result true (was_open c) c.nothing_whole.ensures.said

pub returns-in-Fault-clause-said : goal.returns-in-Fault-clause-said
returns-in-Fault-clause-said c = c.refuse.ensures.said ∙ sym (ap (λ o. o.said) (was_fault c))

pub returns-in-Fault-clause-after : goal.returns-in-Fault-clause-after
returns-in-Fault-clause-after c = c.refuse.ensures.after ∙ sym (ap (λ o. after o c.args.self.now) (was_fault c))

pub returns-in-Whole-clause-within : goal.returns-in-Whole-clause-within
returns-in-Whole-clause-within c = fits_more c.take_message.result (sizes (c.in-Whole.to - c.in-Whole.from) 0) (sizes c.args.limit 0) c.in-Whole.ensures.within.3 (omega arith) c.take_message.ensures.within
