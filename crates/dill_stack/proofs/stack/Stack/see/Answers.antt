use Rattle.std.proofs.Common.{◌≤◌, ◌∙◌, max, sym, ap, subst}
use Rattle.std.specs.Prelude.{is_some}
use Rattle.dill_stack.specs.contracts.stack.Stack.{the_view}
use Rattle.dill_stack.specs.Receiving.{ws_of}
use Rattle.dill_stack.specs.Refusals.{is_met}
use Rattle.dill_stack.specs.Rooms.{Stocked}
use Rattle.dill_stack.specs.Seeing.{StackSees}
use Rattle.dill_stack.specs.Stepping.{next_pass}
use Rattle.dill_stack.proofs.Passers.{over_link}
use Rattle.dill_stack.proofs.Roominess.{joins_less}
use Rattle.dill_stack.proofs.Seers.{passes_none, see_joins, see_stands, see_room, stack_sees}
use Rattle.dill_stack.proofs.stack.Stack.see.Goals as goal

pub see_on_link-requires : goal.see_on_link-requires
see_on_link-requires c = record {
  room = joins_less (max 16384 c.self.inside.most) c.args.limit c.self.inside.base (subst (λ (s : Stocked). c.args.limit ≤ max 16384 s.most) (sym c.self.view_is) c.requires.joined) c.self.invariant.1.1;
  last = passes_none c.args.limit c.self.inside.terms.items c.self.inside.base c.self.inside.unread (the_view c.self.inside) (ap (λ s. is_met s.held.layers) c.self.view_is ∙ c.requires.unmet) (ap (λ s. next_pass c.args.limit s.held) c.self.view_is ∙ c.requires.last);
}

pub invariant_of-self : goal.invariant_of-self
invariant_of-self c = (
  see_stands c.args.limit c.self.inside.base c.see_on_link.new.base c.self.inside.unread c.see_on_link.new.unread c.see_on_link.result c.self.inside.terms.items c.self.inside.queue.room c.see_on_link.ensures c.self.invariant.0,
  (
    rw (see_room c.args.limit c.self.inside.base c.see_on_link.new.base c.self.inside.unread c.see_on_link.new.unread c.see_on_link.result c.see_on_link.ensures) c.self.invariant.1.0,
    see_joins c.args.limit c.self.inside.base c.see_on_link.new.base c.self.inside.unread c.see_on_link.new.unread c.see_on_link.result (max 16384 c.self.inside.most) c.see_on_link.ensures c.self.invariant.1.1,
  ),
)

pub returns : goal.returns
returns c = subst (λ (s : Stocked). StackSees c.args.limit c.see_on_link.result s (over_link c.self.inside.terms.items c.see_on_link.new.base c.see_on_link.new.unread (the_view c.self.inside))) c.self.view_is (stack_sees c.args.limit c.self.inside.terms.items c.self.inside.base c.see_on_link.new.base c.self.inside.unread c.see_on_link.new.unread (the_view c.self.inside) c.see_on_link.result c.see_on_link.ensures (ap (λ s. is_met s.held.layers) c.self.view_is ∙ c.requires.unmet) (ap (λ s. next_pass c.args.limit s.held) c.self.view_is ∙ c.requires.last) (ap (λ s. is_some (ws_of s.held.layers)) c.self.view_is ∙ c.requires.framed))
