use Rattle.std.proofs.Common.{◌∙◌, ap, sym}
use Rattle.dill_stack.specs.Held.{Held}
use Rattle.dill_stack.specs.Receiving.{Looked}
use Rattle.dill_stack.proofs.DropShort.{finish_short}
use Rattle.dill_stack.proofs.stack.Stack.detach_finish.Goals as goal

pub returns-clause-said : goal.returns-clause-said
returns-clause-said g c = sym (ap (λ (l : Looked). l.said) c.finish.ensures.look)

pub returns-clause-stack : goal.returns-clause-stack
returns-clause-stack g c = c.finish.ensures.rest ∙ ap {A = Held} (λ h. record c.args.self.now { held = h }) (sym (ap (λ (l : Looked). l.stack) c.finish.ensures.look))

pub returns-clause-random : goal.returns-clause-random
returns-clause-random g c = sym (ap (λ (l : Looked). l.random) c.finish.ensures.look)

pub returns-clause-short : goal.returns-clause-short
returns-clause-short g c = λ h x l. finish_short c.prefix_laws.ensures c.suffix_laws.ensures c.http_laws.ensures.lines (g.R.Rng.stream c.args.keys.now) c.args.self.now.held c.finish.new.self.held (c.stands.ensures.bounded l) (sym (ap (λ (l : Looked). l.stack) c.finish.ensures.look)) (ap (λ (l : Looked). l.said) c.finish.ensures.look ∙ h) x
