use Rattle.std.proofs.Common.{◌≡◌, ◌∙◌, subst}
use Rattle.dill_stack.specs.Framing.{answers_of}
use Rattle.dill_stack.specs.Receiving.{ws_of}
use Rattle.dill_stack.specs.Rooms.{Stocked}
use Rattle.dill_stack.specs.contracts.stack.Stack.{the_view}
use Rattle.dill_stack.proofs.Passers.{answers_is}
use Rattle.dill_stack.proofs.stack.Stack.answers_pings.Goals as goal

pub returns : goal.returns
returns c = subst (λ (s : Stocked). c.answers_pings.result ≡ answers_of (ws_of s.held.layers) s.held) c.self.view_is (c.answers_pings.ensures ∙ answers_is c.self.inside.terms.items c.self.inside.base (the_view c.self.inside).held)
