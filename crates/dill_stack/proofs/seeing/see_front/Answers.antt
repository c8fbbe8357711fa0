use Rattle.std.proofs.Common.{◌≡◌, ◌∙◌, sym, ap, refl}
use Rattle.dill_stack.specs.Standing.{ws_layer}
use Rattle.dill_stack.specs.Read.{no_more}
use Rattle.dill_stack.specs.WsReading.{Shown, Short, Refused, ws_front}
use Rattle.dill_stack.proofs.FrameSees.{sees_short, sees_refused, none_told}
use Rattle.dill_stack.proofs.seeing.see_front.Goals as goal

pub returns-in-Short : goal.returns-in-Short
returns-in-Short c =
    let e : ws_front c.args.limit (ws_layer c.args.framed.now) c.args.unread.now.items ≡ Short = ap (ws_front c.args.limit (ws_layer c.args.framed.now)) (sym c.as_slice.ensures) ∙ sym c.in-Short.ensures.front in
    (λ ended. sees_short c.args.limit (ws_layer c.args.framed.now) c.args.unread.now.items e ended ∙ ap (λ b. let s : Shown = record { used = 0; ws = ws_layer c.args.framed.now; said = no_more ended b c.args.unread.now.items } in s) (none_told c.args.framed.now.joining c.is_none.result (sym c.is_none.ensures)), refl, refl)

pub returns-in-Refused : goal.returns-in-Refused
returns-in-Refused c =
    let e : ws_front c.args.limit (ws_layer c.args.framed.now) c.args.unread.now.items ≡ Refused c.in-Refused.e = ap (ws_front c.args.limit (ws_layer c.args.framed.now)) (sym c.as_slice.ensures) ∙ sym c.in-Refused.ensures.front in
    (λ ended. sees_refused c.args.limit (ws_layer c.args.framed.now) c.args.unread.now.items c.in-Refused.e e ended, refl, refl)
