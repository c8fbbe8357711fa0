use Rattle.std.proofs.Common.{◌≡◌, sym, ap}
use Rattle.dill_stack.specs.declared.want.ReadOut.TheVariants.{Need}
use Rattle.dill_stack.specs.Read.{outcome}
use Rattle.dill_stack.specs.Taking.{after, line_read}
use Rattle.dill_stack.proofs.HeadReads.{no_line}
use Rattle.dill_stack.proofs.stack.Stack.read_line.Goals as goal

none : (c : goal.In_default) → line_read c.args.want c.args.self.now.held ≡ outcome 0 c.args.self.now.held.layers Need
none c = rw (← c.self.view_is) (no_line c.args.want c.self.inside.terms.items c.self.inside.base c.self.inside.unread.items c.self.inside.receiving.done c.in_default.not-Http)

pub returns-in_default-clause-said : goal.returns-in_default-clause-said
returns-in_default-clause-said c = sym (ap (λ o. o.said) (none c))

pub returns-in_default-clause-after : goal.returns-in_default-clause-after
returns-in_default-clause-after c = sym (ap (λ o. after o c.args.self.now) (none c))
