use Rattle.std.proofs.Common.{◌∙◌, sym, ap, subst}
use Rattle.dill_stack.specs.Taking.{DrawsNone, after}
use Rattle.dill_stack.specs.Read.{Outcome}
use Rattle.dill_stack.proofs.HeadReads.{line_reads}
use Rattle.dill_stack.proofs.stack.Stack.look.Goals as goal

pub returns-in_default-clause-said : goal.returns-in_default-clause-said
returns-in_default-clause-said c = c.read_line.ensures.said ∙ sym (ap (λ o. o.said) (line_reads c.args.want c.args.self.now.held c.in_default.not-Exact c.in_default.not-Message))

pub returns-in_default-clause-after : goal.returns-in_default-clause-after
returns-in_default-clause-after c = c.read_line.ensures.after ∙ sym (ap (λ o. after o c.args.self.now) (line_reads c.args.want c.args.self.now.held c.in_default.not-Exact c.in_default.not-Message))

pub returns-in_default-clause-plain : goal.returns-in_default-clause-plain
returns-in_default-clause-plain c = subst (λ (o : Outcome). DrawsNone o c.args.self.now.held) (sym (line_reads c.args.want c.args.self.now.held c.in_default.not-Exact c.in_default.not-Message)) c.read_line.ensures.plain
