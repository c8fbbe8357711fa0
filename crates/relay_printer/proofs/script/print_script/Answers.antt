use Rattle.relay_printer.proofs.Joining.{script_added}
use Rattle.relay_printer.proofs.script.print_script.Goals as goal

pub returns : goal.returns
returns c = script_added _ _ _ _ _ c.new-out.ensures c.in_ok-push_all.ensures.ok c.as_slice.ensures c.in_ok-put_programs.ensures
