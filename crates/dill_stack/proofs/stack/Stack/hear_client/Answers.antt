use Rattle.std.proofs.Common.{◌≡◌, ◌∙◌, sym, ap, refl}
use Rattle.dill_ws.specs.declared.request.Asked.TheVariants as asked
use Rattle.dill_ws.specs.Handshakes.{client_front}
use Rattle.dill_stack.proofs.stack.Stack.hear_client.Goals as goal

pub returns-in-Whole-clause-stack : goal.returns-in-Whole-clause-stack
returns-in-Whole-clause-stack c =
    let f : client_front c.self.inside.unread.items ≡ asked.Whole c.in-Whole.key c.in-Whole.used = sym (c.in-Whole.ensures.front ∙ ap client_front c.as_slice.ensures) in
    rw (c.push.ensures, c.use_up.ensures) (rw (c.server_head.ensures, c.accept_of.ensures) (rw (← c.self.view_is) (rw f refl)))
