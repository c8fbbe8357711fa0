use Rattle.std.proofs.Common.{◌≡◌, ◌∙◌, ap, sym}
use Rattle.dill_stack.specs.Greeting.{greeted}
use Rattle.dill_stack.specs.Held.{Greets, Expects, Answers}
use Rattle.dill_stack.proofs.Greetings.{hears, hears_none, unheard}
use Rattle.dill_stack.proofs.stack.Stack.hear.Goals as goal

pub hear_client-requires : goal.hear_client-requires
hear_client-requires c = record { sent = c.requires (sym (ap (λ s. s.held.task) c.self.view_is) ∙ c.in-Expects.is) }

pub returns-in-Greets-clause-said : goal.returns-in-Greets-clause-said
returns-in-Greets-clause-said c = c.hear_server.ensures.said ∙ sym (ap (λ h. h.said) (hears c.args.self.now.held (Greets c.in-Greets.accept) (sym (ap (λ s. s.held.task) c.self.view_is) ∙ c.in-Greets.is)))

pub returns-in-Greets-clause-stack : goal.returns-in-Greets-clause-stack
returns-in-Greets-clause-stack c = c.hear_server.ensures.stack ∙ sym (ap (λ h. record c.args.self.now { held = h.stack }) (hears c.args.self.now.held (Greets c.in-Greets.accept) (sym (ap (λ s. s.held.task) c.self.view_is) ∙ c.in-Greets.is)))

pub returns-in-Expects-clause-said : goal.returns-in-Expects-clause-said
returns-in-Expects-clause-said c = c.hear_client.ensures.said ∙ sym (ap (λ h. h.said) (hears c.args.self.now.held Expects (sym (ap (λ s. s.held.task) c.self.view_is) ∙ c.in-Expects.is)))

pub returns-in-Expects-clause-stack : goal.returns-in-Expects-clause-stack
returns-in-Expects-clause-stack c = c.hear_client.ensures.stack ∙ sym (ap (λ h. record c.args.self.now { held = h.stack }) (hears c.args.self.now.held Expects (sym (ap (λ s. s.held.task) c.self.view_is) ∙ c.in-Expects.is)))

pub returns-in-Answers-clause-said : goal.returns-in-Answers-clause-said
returns-in-Answers-clause-said c = c.hear_sent.ensures.said ∙ sym (ap (λ h. h.said) (hears c.args.self.now.held Answers (sym (ap (λ s. s.held.task) c.self.view_is) ∙ c.in-Answers.is)))

pub returns-in-Answers-clause-stack : goal.returns-in-Answers-clause-stack
returns-in-Answers-clause-stack c = c.hear_sent.ensures.stack ∙ sym (ap (λ h. record c.args.self.now { held = h.stack }) (hears c.args.self.now.held Answers (sym (ap (λ s. s.held.task) c.self.view_is) ∙ c.in-Answers.is)))

none : (c : goal.In_default) → greeted c.args.self.now.held ≡ unheard c.args.self.now.held
none c = hears c.args.self.now.held c.self.inside.task (sym (ap (λ s. s.held.task) c.self.view_is)) ∙ hears_none c.args.self.now.held c.self.inside.task c.in_default.not-Greets c.in_default.not-Expects c.in_default.not-Answers

pub returns-in_default-clause-said : goal.returns-in_default-clause-said
returns-in_default-clause-said c = sym (ap (λ h. h.said) (none c))

pub returns-in_default-clause-stack : goal.returns-in_default-clause-stack
returns-in_default-clause-stack c = sym (ap (λ h. record c.args.self.now { held = h.stack }) (none c))
