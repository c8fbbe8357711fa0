use Rattle.std.proofs.Common.{◌≡◌, ◌∙◌, ◌∷◌, [], List, ap, sym, refl}
use Rattle.base64.specs.GeneralPurpose.{encode_of}
use Rattle.base64.specs.Engines.{standard}
use Rattle.dill_ws.specs.declared.side.Side.TheVariants.{Client}
use Rattle.dill_ws.specs.Handshakes.{accept_text, client_lines, head_of_lines}
use Rattle.dill_stack.specs.Greeting.{key_text}
use Rattle.dill_stack.specs.Held.{Greets, Plain}
use Rattle.dill_stack.specs.Layers.{Placed, Ws, fresh_ws}
use Rattle.dill_stack.specs.Rooms.{Stocked}
use Rattle.dill_stack.specs.Sending.{queued}
use Rattle.dill_stack.proofs.Greetings.{greets, has_greeted}
use Rattle.dill_stack.proofs.Sends.{lacking}
use Rattle.dill_stack.proofs.stack.Stack.offer.Goals as goal

pub returns-in_default : goal.returns-in_default
returns-in_default g c = lacking _ _ c.args.self.now c.args.self.now (g.R.Rng.stream c.args.keys.now) (greets c.args.text c.args.resource.now c.args.host.now (g.R.Rng.stream c.args.keys.now) c.args.self.now.held c.requires.free) refl

pub returns-in-Ok-make_head_room : goal.returns-in-Ok-make_head_room
returns-in-Ok-make_head_room g c =
    let k : c.key_text-key.result ≡ key_text (g.R.Rng.stream c.args.keys.now) = c.key_text-key.ensures ∙ ap (encode_of standard) c.draw_nonce.ensures.nonce in
    let on : List Placed → Stocked = λ below. record c.args.self.now { held = record (queued Plain (head_of_lines (client_lines c.args.resource.now c.args.host.now c.key_text-key.result)) c.args.self.now.held) { layers = Ws (fresh_ws Client c.args.text) ∷ below; task = Greets (accept_text c.key_text-key.result) } } in
    let put : c.put_on_link.new.self ≡ on [] = rw c.put_on_link.ensures (rw (c.push_head.ensures, c.in-Ok-make_head_room.ensures.ok.0, c.accept_of.ensures, c.in-Ok.ensures) (rw (← c.self.view_is) refl)) in
    let whole : on [] ≡ on c.args.self.now.held.layers = ap on (sym c.requires.bare) in
    has_greeted c.args.text c.args.resource.now c.args.host.now c.key_text-key.result _ c.args.self.now c.put_on_link.new.self (g.R.Rng.stream c.args.keys.now) (g.R.Rng.stream c.draw_nonce.new.keys) (greets c.args.text c.args.resource.now c.args.host.now (g.R.Rng.stream c.args.keys.now) c.args.self.now.held c.requires.free) (put ∙ whole) k c.draw_nonce.ensures.left

pub returns-in-Err : goal.returns-in-Err
returns-in-Err g c = lacking _ _ c.args.self.now _ (g.R.Rng.stream c.args.keys.now) (greets c.args.text c.args.resource.now c.args.host.now (g.R.Rng.stream c.args.keys.now) c.args.self.now.held c.requires.free) (rw c.in-Err.ensures.err c.self.view_is)
