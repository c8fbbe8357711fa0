use Rattle.std.proofs.Common.{◌≡◌, ◌++◌, take, flat_map}
use Rattle.relay_printer.specs.Pieces.{statement_text}
use Rattle.relay_printer.proofs.script.put_statements.Given as goal

abbrev pub invariant-loop-statement : goal.invariant-loop-statement
invariant-loop-statement l = l.out ≡ l.fn.out ++ flat_map statement_text (take l.statement-index l.statements)
