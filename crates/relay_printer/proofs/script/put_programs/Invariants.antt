use Rattle.std.proofs.Common.{◌≡◌, ◌++◌, take, flat_map}
use Rattle.relay_printer.specs.Pieces.{program_text}
use Rattle.relay_printer.proofs.script.put_programs.Given as goal

abbrev pub invariant-loop-program : goal.invariant-loop-program
invariant-loop-program l = l.out ≡ l.fn.out ++ flat_map program_text (take l.program-index l.programs)
