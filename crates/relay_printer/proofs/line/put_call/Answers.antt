use Rattle.std.proofs.lemmas.Result.{on_ok_weaker}
use Rattle.relay_printer.proofs.Joining.{call_added}
use Rattle.relay_printer.proofs.line.put_call.Goals as goal

pub returns : goal.returns
returns c =
    on_ok_weaker c.put_operands.result (call_added _ _ _ _ _ _ _ _ _ _ c.in_ok-put_try.ensures c.in_ok-put_dest.ensures c.name.ensures.text c.in_ok-push_all.ensures.ok c.as_slice.ensures) c.put_operands.ensures
