use Rattle.std.proofs.Common.{◌∙◌, ◌&&◌, [], not}
use Rattle.std.specs.Str.{is_utf8}
use Rattle.dill_stack.specs.Composed.{data_frame}
use Rattle.dill_stack.specs.Standing.{ws_layer}
use Rattle.dill_stack.proofs.Towers.{text_fault}
use Rattle.dill_stack.proofs.refusals.refusal_on_link.Goals as goal

pub returns-in-Ws : goal.returns-in-Ws
returns-in-Ws c = rw c.in-Ws.is (c.text_refusal.ensures ∙ text_fault (c.in-Ws.framed.text && not (is_utf8 c.args.message.now)) (data_frame (ws_layer c.in-Ws.framed) [] c.args.message.now))
