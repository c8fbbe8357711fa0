use Rattle.std.proofs.Common.{◌≡◌, ◌+◌, ◌∙◌, [], arith, sym, ap, take, drop, length, Some}
use Rattle.dill_ws.specs.Frames.{masked}
use Rattle.dill_stack.specs.Layers.{WsLayer}
use Rattle.dill_stack.specs.Standing.{ws_layer}
use Rattle.dill_stack.specs.WsReading.{pass_by_front, part_of, with_part}
use Rattle.dill_stack.proofs.Again.{some_used}
use Rattle.dill_stack.proofs.Limits.{frame_at}
use Rattle.dill_stack.proofs.FramePasses.{part_at, passes_part}
use Rattle.dill_stack.proofs.frames.pass_part.Goals as goal

pub join-requires : goal.join-requires
join-requires c =
    let l = part_at c.args.limit (ws_layer c.args.framed.now) c.args.unread.now.items c.args.head (c.args.head.start + c.args.head.length) c.requires.front (omega (arith, c.if-head-gt2.false)) in
    let e : length c.payload_of.result.now ≡ length (take c.args.head.length (drop c.args.head.start c.args.unread.now.items)) = ap length (c.payload_of.ensures ∙ ap (λ y. take c.args.head.length (drop c.args.head.start y)) c.as_slice.ensures) in
    omega (arith, l, e, c.requires.room)

pub returns : goal.returns
returns c =
    let ws : WsLayer = ws_layer c.args.framed.now in
    let layer : ws_layer c.join.new.framed ≡ with_part (part_of c.args.head c.args.unread.now.items) ws = c.join.ensures.layer ∙ ap (λ x. with_part (record { fin = c.args.head.fin; opcode = c.args.head.opcode; payload = masked c.args.head.key x }) ws) (c.payload_of.ensures ∙ ap (λ y. take c.args.head.length (drop c.args.head.start y)) c.as_slice.ensures) in
    record {
      used = c.args.head.start + c.args.head.length;
      there = c.requires.there;
      some = some_used ws c.args.unread.now.items (part_of c.args.head c.args.unread.now.items) (c.args.head.start + c.args.head.length) (frame_at c.args.limit ws c.args.unread.now.items (part_of c.args.head c.args.unread.now.items) (c.args.head.start + c.args.head.length) c.requires.front);
      pass = ap (pass_by_front ws) c.requires.front ∙ passes_part ws c.args.head c.args.unread.now.items (c.args.head.start + c.args.head.length) (omega (arith, c.if-head-gt2.false)) c.if-head.false ∙ ap (λ x. Some (record { used = c.args.head.start + c.args.head.length; ws = x; pings = [] })) (sym layer);
      bytes = c.use_frame.ensures;
      room = c.join.ensures.room;
    }
