use Rattle.std.proofs.Common.{◌≡◌, ◌+◌, ◌∙◌, arith, sym, ap, refl, take, drop, length}
use Rattle.std.specs.Prelude.{is_some}
use Rattle.dill_ws.specs.Closing.{close_of}
use Rattle.dill_ws.specs.Frames.{masked}
use Rattle.dill_stack.specs.Standing.{ws_layer}
use Rattle.dill_stack.specs.WsReading.{is_data}
use Rattle.dill_stack.proofs.FramePasses.{control_at}
use Rattle.dill_stack.proofs.FrameSees.{sees_close, sees_bad_close}
use Rattle.dill_stack.proofs.seeing.see_close.Goals as goal

pub unmasked-payload-requires : goal.unmasked-payload-requires
unmasked-payload-requires c =
    let l = control_at c.args.limit (ws_layer c.args.framed.now) c.args.unread.now.items c.args.head (c.args.head.start + c.args.head.length) c.requires.front (ap is_data c.requires.close) in
    let e : length c.payload_of.result.now ≡ length (take c.args.head.length (drop c.args.head.start c.args.unread.now.items)) = ap length (c.payload_of.ensures ∙ ap (λ y. take c.args.head.length (drop c.args.head.start y)) c.as_slice.ensures) in
    omega (arith, l, e)

pub returns-in-Some : goal.returns-in-Some
returns-in-Some c =
    record {
      used = c.args.head.start + c.args.head.length;
      shows = sees_close c.args.limit (ws_layer c.args.framed.now) c.args.unread.now.items c.args.head (c.args.head.start + c.args.head.length) c.requires.front c.requires.close (ap is_some (sym (c.close_code.ensures.value ∙ ap close_of (c.as_slice-2.ensures.value ∙ c.unmasked-payload.ensures ∙ ap (masked c.args.head.key) (c.payload_of.ensures ∙ ap (λ y. take c.args.head.length (drop c.args.head.start y)) c.as_slice.ensures)))) ∙ ap is_some c.in-Some.is);
      met = refl;
      bytes = c.use_frame.ensures;
    }

pub returns-in-None : goal.returns-in-None
returns-in-None c = (
  sees_bad_close c.args.limit (ws_layer c.args.framed.now) c.args.unread.now.items c.args.head (c.args.head.start + c.args.head.length) c.requires.front c.requires.close (ap is_some (sym (c.close_code.ensures.value ∙ ap close_of (c.as_slice-2.ensures.value ∙ c.unmasked-payload.ensures ∙ ap (masked c.args.head.key) (c.payload_of.ensures ∙ ap (λ y. take c.args.head.length (drop c.args.head.start y)) c.as_slice.ensures)))) ∙ ap is_some c.in-None.is),
  refl,
  refl,
)
