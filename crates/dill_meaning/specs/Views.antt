-- What a coroutine that runs a script's program holds.
use Rattle.std.specs.Prelude.{ℕ, zero, suc, ◌-◌, List, [], ◌++◌, length, drop, replicate, get_or, set, slice_get, position, Option, Some, None, unwrap_or, codes}
use Rattle.dill_base.specs.declared.errno.Errno.{Errno}
use Rattle.dill_script.specs.declared.script.Program.{Program}
use Rattle.dill_script.specs.declared.statement.Statement.{Statement}
use Rattle.dill_script.specs.Refusals.{has_name}

-- a loop that is open
pub record Round : Type 0 where
  -- how many statements of the program stand before the loop's first
  pub first : ℕ
  -- how many rounds are to come behind this one; none of a loop without end
  pub left : Option ℕ

-- a coroutine of a script's program
pub record ScriptView : Type 0 where
  pub script : List Program
  -- which of them it runs, from 0
  pub program : ℕ
  -- how many statements are behind it; the last of them is the place of its call, and there is none before the first turn
  pub passed : ℕ
  -- the number registers, and the byte registers
  pub numbers : List ℕ
  pub texts : List (List ℕ)
  pub err : Option Errno
  -- the loops that are open, innermost first
  pub rounds : List Round
  -- the first errno that it was brought to `finally` or to its end by
  pub outcome : Option Errno

-- the statements of a program that may not be there
abbrev pub statements_in : Option Program → List Statement
statements_in None = []
statements_in (Some program) = program.statements

-- its program's statements
abbrev pub statements_of : ScriptView → List Statement
statements_of view = statements_in (slice_get view.script view.program)

-- the statements that are ahead
abbrev pub ahead : ScriptView → List Statement
ahead view = drop view.passed (statements_of view)

-- the last of so many statements
abbrev pub last_of : List Statement → ℕ → Option Statement
last_of list zero = None
last_of list (suc count) = slice_get list count

-- the statement of the call that was made last
abbrev pub pending : ScriptView → Option Statement
pending view = last_of (statements_of view) view.passed

-- what a number register holds
abbrev pub number_in : ScriptView → ℕ → ℕ
number_in view place = get_or view.numbers place 0

-- what a byte register holds
abbrev pub bytes_in : ScriptView → ℕ → List ℕ
bytes_in view place = get_or view.texts place []

-- with another number in a register
abbrev pub with_number : ScriptView → ℕ → ℕ → ScriptView
with_number view place value = record view { numbers = set view.numbers place value }

-- with other bytes in a register
abbrev pub with_bytes : ScriptView → ℕ → List ℕ → ScriptView
with_bytes view place value = record view { texts = set view.texts place value }

-- a coroutine before its first turn: its arguments stand in the first number registers, and all else is 0 or empty
abbrev pub beginning : List Program → ℕ → List ℕ → ScriptView
beginning script program args = record { script = script; program = program; passed = 0; numbers = args ++ replicate (16 - length args) 0; texts = replicate 16 []; err = None; rounds = []; outcome = None }

-- the number of the program of this name
abbrev pub number_of_name : List Program → List ℕ → ℕ
number_of_name script name = unwrap_or (position (has_name name) script) (length script)

-- `main` before its first turn
abbrev pub main_of : List Program → ScriptView
main_of script = beginning script (number_of_name script (codes "main")) []
