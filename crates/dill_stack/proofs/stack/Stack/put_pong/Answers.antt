use Rattle.std.proofs.Common.{◌≡◌, ◌∙◌, ap, true}
use Rattle.dill_ws.specs.Frames.{frame_bytes}
use Rattle.dill_stack.specs.contracts.stack.Stack.{the_view}
use Rattle.dill_stack.specs.Framing.{key_in}
use Rattle.dill_stack.specs.Receiving.{ws_of, with_pong}
use Rattle.dill_stack.specs.Rooms.{Queued, Stocked}
use Rattle.dill_stack.proofs.Passers.{key_is}
use Rattle.dill_stack.proofs.stack.Stack.put_pong.Goals as goal

pub returns : goal.returns
returns c =
    let old : Stocked = the_view c.self.inside in
    let pong : c.new.result ≡ frame_bytes true 10 (key_in (ws_of c.args.self.now.held.layers) c.args.key) c.args.payload.now = c.new.ensures ∙ ap (λ k. frame_bytes true 10 k c.args.payload.now) (c.frame_key.ensures ∙ key_is c.self.inside.terms.items c.self.inside.base c.args.key ∙ ap (λ (s : Stocked). key_in (ws_of s.held.layers) c.args.key) c.self.view_is) in
    ap {A = Queued} (λ q. record old { held = record old.held { queue = q.items } }) c.put_pong.ensures
    ∙ ap (λ m. record old { held = record old.held { queue = with_pong m old.held.queue } }) pong
    ∙ ap {A = Stocked} (λ s. record s { held = record s.held { queue = with_pong (frame_bytes true 10 (key_in (ws_of c.args.self.now.held.layers) c.args.key) c.args.payload.now) s.held.queue } }) c.self.view_is
