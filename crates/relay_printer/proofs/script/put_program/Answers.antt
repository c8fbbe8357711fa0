use Rattle.std.proofs.lemmas.Result.{on_ok_weaker}
use Rattle.relay_printer.proofs.Joining.{program_added}
use Rattle.relay_printer.proofs.script.put_program.Goals as goal

pub returns : goal.returns
returns c =
    on_ok_weaker c.push_all.result (program_added _ _ _ _ _ _ c.args.program.now c.as_slice.ensures c.in_ok-put_heading.ensures c.as_slice-2.ensures c.in_ok-put_statements.ensures) c.push_all.ensures.ok
