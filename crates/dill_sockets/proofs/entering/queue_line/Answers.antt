use Rattle.std.proofs.Common.{◌++◌}
use Rattle.dill_http.specs.Heads.{line_of}
use Rattle.dill_http.specs.Lines.{crlf}
use Rattle.dill_stack.specs.Interface.{line}
use Rattle.dill_rules.specs.Directions.{is_first}
use Rattle.dill_sockets.proofs.Entered.{written_line}
use Rattle.dill_sockets.proofs.entering.queue_line.Goals as goal

pub returns-in-Ok : goal.returns-in-Ok
returns-in-Ok c = λ said random free first writes.
    c.lack_of.ensures.changes (line (is_first said) (line_of said ++ crlf) c.args.stack.now.held) c.args.stack.now c.line.new.self random
    (rw first (rw (← written_line said c.args.written c.in-Ok.line c.in-Ok.is free writes) c.line.ensures))
