-- What is done with an ending and with an answer that is due.
use Rattle.std.specs.Prelude.{ℕ, Option}
use Rattle.dill_base.specs.declared.errno.Errno.{Errno}
use Rattle.dill_rules.specs.declared.coroutine.Coroutine.{Coroutine}
use Rattle.dill_rules.specs.Settling.{outcome_of}

-- who is ending, and how its program ended
abbrev pub ending_of : {V : Type 0} → Coroutine V → ℕ × Option Errno
ending_of c = (c.number, outcome_of c.mode)
