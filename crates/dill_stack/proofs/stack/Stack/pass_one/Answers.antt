use Rattle.std.proofs.Common.{◌≡◌, ◌≤◌, ◌∙◌, max, sym, ap, subst, false}
use Rattle.dill_stack.specs.contracts.stack.Stack.{the_view}
use Rattle.dill_stack.specs.Framing.{StackPasses}
use Rattle.dill_stack.specs.Refusals.{is_met}
use Rattle.dill_stack.specs.Rooms.{Stocked}
use Rattle.dill_stack.specs.Standing.{tower, base_layers}
use Rattle.dill_stack.proofs.Passers.{link_joins, link_stands, link_room, stack_passes, over_link}
use Rattle.dill_stack.proofs.Roominess.{joins_less}
use Rattle.dill_stack.proofs.stack.Stack.pass_one.Goals as goal

pub pass_on_link-requires : goal.pass_on_link-requires
pass_on_link-requires c = joins_less (max 16384 c.self.inside.most) c.args.limit c.self.inside.base (subst (λ (s : Stocked). c.args.limit ≤ max 16384 s.most) (sym c.self.view_is) c.requires) c.self.invariant.1.1

pub invariant_of-self : goal.invariant_of-self
invariant_of-self c = (
  link_stands c.args.limit c.self.inside.base c.pass_on_link.new.base c.self.inside.unread c.pass_on_link.new.unread c.pass_on_link.result c.pass_on_link.ensures c.self.inside.terms.items c.self.inside.queue.room c.self.invariant.0,
  (
    rw (link_room c.args.limit c.self.inside.base c.pass_on_link.new.base c.self.inside.unread c.pass_on_link.new.unread c.pass_on_link.result c.pass_on_link.ensures) c.self.invariant.1.0,
    link_joins c.args.limit c.self.inside.base c.pass_on_link.new.base c.self.inside.unread c.pass_on_link.new.unread c.pass_on_link.result c.pass_on_link.ensures (max 16384 c.self.inside.most) c.self.invariant.1.1,
  ),
)

pub returns : goal.returns
returns c =
    let m : is_met (tower c.self.inside.terms.items (base_layers c.self.inside.base)) ≡ false = ap (λ ts. is_met (tower ts (base_layers c.self.inside.base))) (sym c.as_slice.ensures.value) ∙ sym c.has_met.ensures ∙ c.if-has_met.false in
    subst (λ (s : Stocked). StackPasses c.args.limit c.pass_on_link.result s (over_link c.self.inside.terms.items c.pass_on_link.new.base c.pass_on_link.new.unread (the_view c.self.inside))) c.self.view_is (stack_passes c.args.limit c.self.inside.terms.items c.self.inside.base c.pass_on_link.new.base c.self.inside.unread c.pass_on_link.new.unread (the_view c.self.inside) c.pass_on_link.result c.pass_on_link.ensures m)
