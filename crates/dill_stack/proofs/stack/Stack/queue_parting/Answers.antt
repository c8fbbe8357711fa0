use Rattle.std.proofs.Common.{◌∙◌, max, sym, ap, subst}
use Rattle.dill_stack.specs.Doing.{IsKey, below_parting}
use Rattle.dill_stack.specs.Rooms.{Stocked}
use Rattle.dill_stack.specs.Standing.{tower, base_layers, is_frames_top}
use Rattle.dill_stack.proofs.Endings.{closes, joins_closed, stack_closed}
use Rattle.dill_stack.proofs.stack.Stack.queue_parting.Goals as goal

pub invariant_of-self : goal.invariant_of-self
invariant_of-self c = (rw (c.push_close.ensures.queued, c.push_close.ensures.closed) (stack_closed c.self.inside.terms.items c.self.inside.base c.self.inside.queue.room (ap (λ ts. is_frames_top (tower ts (base_layers c.self.inside.base))) (sym c.as_slice.ensures.value) ∙ sym c.is_frames_top.ensures ∙ c.if-is_frames_top.true) c.self.invariant.0), (c.self.invariant.1.0, rw c.push_close.ensures.closed (joins_closed (max 16384 c.self.inside.most) c.self.inside.base c.self.invariant.1.1)))

pub returns-then-is_frames_top-clause-due : goal.returns-then-is_frames_top-clause-due
returns-then-is_frames_top-clause-due c = λ random k. rw (c.push_close.ensures.queued, c.push_close.ensures.closed) (rw (← c.self.view_is) (closes c.args.parting.now c.args.key c.self.inside.terms.items c.self.inside.base random _ (ap (λ ts. is_frames_top (tower ts (base_layers c.self.inside.base))) (sym c.as_slice.ensures.value) ∙ sym c.is_frames_top.ensures ∙ c.if-is_frames_top.true) (subst (λ (s : Stocked). IsKey c.args.key (below_parting s.held.layers) random) (sym c.self.view_is) k)))
