use Rattle.std.proofs.Common.{◌≡◌, ◌∙◌, [], sym, ap, refl}
use Rattle.dill_calls.specs.declared.answer.Answer.TheVariants.{Number}
use Rattle.dill_stack.specs.declared.want.ReadOut.TheVariants.{Given}
use Rattle.dill_stack.specs.Dropping.{End}
use Rattle.dill_stack.specs.Leaving.{step_of, next_dropped}
use Rattle.dill_stack.specs.Read.{outcome}
use Rattle.dill_stack.specs.Receiving.{ws_of}
use Rattle.dill_stack.specs.Standing.{ends_of}
use Rattle.dill_stack.proofs.Drops.{drops_framing}
use Rattle.dill_stack.proofs.Endings.{none_ends}
use Rattle.dill_stack.proofs.stack.Stack.drop_on_link.Goals as goal

left : (c : goal.After-leave_link) → next_dropped c.args.self.now.held ≡ End (outcome 0 [] (Given (Number 0)))
left c = rw (← c.self.view_is) (drops_framing c.self.inside.terms.items c.self.inside.base c.self.inside.unread.items c.self.inside.receiving.done (none_ends c.self.inside.terms.items c.self.inside.base (ap (λ s. ends_of s.held.layers) c.self.view_is ∙ c.requires.bare)) (ap (λ s. ws_of s.held.layers) c.self.view_is ∙ c.requires.plain) c.in_default.not-Bytes c.in_default.not-Http)

pub returns-in_default-clause-step : goal.returns-in_default-clause-step
returns-in_default-clause-step c = sym (ap step_of (left c))

pub returns-in_default-clause-after : goal.returns-in_default-clause-after
returns-in_default-clause-after c = rw (left c) (rw (c.leave_link.ensures) refl)
