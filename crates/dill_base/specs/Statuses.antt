-- The exit statuses of the program.
use Rattle.std.specs.Prelude.{ℕ}
use Rattle.dill_base.specs.declared.status.Status.{Status}
use Rattle.dill_base.specs.declared.status.Status.TheVariants as status

abbrev pub code_of : Status → ℕ
code_of status.Well = 0
code_of status.Fault = 1
code_of status.Words = 2
code_of status.Memory = 3
code_of status.Script = 4
code_of status.Shelf = 5
code_of status.Sink = 6
code_of status.Spent = 7
code_of status.Stuck = 8
code_of status.Wait = 9
