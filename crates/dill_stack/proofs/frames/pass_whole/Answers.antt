use Rattle.std.proofs.Common.{◌≡◌, ◌+◌, ◌∙◌, [], ◌∷◌, arith, sym, ap, refl, take, drop, length, Some}
use Rattle.dill_ws.specs.Frames.{masked}
use Rattle.dill_stack.specs.Layers.{WsLayer}
use Rattle.dill_stack.specs.Standing.{ws_layer}
use Rattle.dill_stack.specs.WsReading.{is_data, pass_by_front, part_of}
use Rattle.dill_stack.proofs.Again.{some_used}
use Rattle.dill_stack.proofs.Limits.{frame_at}
use Rattle.dill_stack.proofs.FramePasses.{control_at, passes_ping, passes_pong}
use Rattle.dill_stack.proofs.frames.pass_whole.Goals as goal

pub unmasked-payload-requires : goal.unmasked-payload-requires
unmasked-payload-requires c =
    let l = control_at c.args.limit (ws_layer c.args.framed.now) c.args.unread.now.items c.args.head (c.args.head.start + c.args.head.length) c.requires.front (ap is_data c.in-9.is) in
    let e : length c.payload_of.result.now ≡ length (take c.args.head.length (drop c.args.head.start c.args.unread.now.items)) = ap length (c.payload_of.ensures ∙ ap (λ y. take c.args.head.length (drop c.args.head.start y)) c.as_slice.ensures) in
    omega (arith, l, e)

pub returns-in-9 : goal.returns-in-9
returns-in-9 c =
    let ws : WsLayer = ws_layer c.args.framed.now in
    let payload : c.unmasked-payload.result ≡ masked c.args.head.key (take c.args.head.length (drop c.args.head.start c.args.unread.now.items)) = c.unmasked-payload.ensures ∙ ap (masked c.args.head.key) (c.payload_of.ensures ∙ ap (λ y. take c.args.head.length (drop c.args.head.start y)) c.as_slice.ensures) in
    record {
      used = c.args.head.start + c.args.head.length;
      there = c.requires.there;
      some = some_used ws c.args.unread.now.items (part_of c.args.head c.args.unread.now.items) (c.args.head.start + c.args.head.length) (frame_at c.args.limit ws c.args.unread.now.items (part_of c.args.head c.args.unread.now.items) (c.args.head.start + c.args.head.length) c.requires.front);
      pass = ap (pass_by_front ws) c.requires.front ∙ passes_ping ws c.args.head c.args.unread.now.items (c.args.head.start + c.args.head.length) c.in-9.is ∙ ap (λ x. Some (record { used = c.args.head.start + c.args.head.length; ws = ws; pings = x ∷ [] })) (sym payload);
      bytes = c.use_frame.ensures;
      room = refl;
    }

pub returns-in-10 : goal.returns-in-10
returns-in-10 c =
    let ws : WsLayer = ws_layer c.args.framed.now in
    record {
      used = c.args.head.start + c.args.head.length;
      there = c.requires.there;
      some = some_used ws c.args.unread.now.items (part_of c.args.head c.args.unread.now.items) (c.args.head.start + c.args.head.length) (frame_at c.args.limit ws c.args.unread.now.items (part_of c.args.head c.args.unread.now.items) (c.args.head.start + c.args.head.length) c.requires.front);
      pass = ap (pass_by_front ws) c.requires.front ∙ passes_pong ws c.args.head c.args.unread.now.items (c.args.head.start + c.args.head.length) c.in-10.is;
      bytes = c.use_frame-in-10.ensures;
      room = refl;
    }
