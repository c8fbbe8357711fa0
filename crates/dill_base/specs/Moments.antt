-- Moments and deadlines, in milliseconds, after libdill's manual.
use Rattle.std.specs.Prelude.{ℕ, ◌+◌, min, max, Bool, false, nat_le}
use Rattle.dill_base.specs.declared.deadline.Deadline.{Deadline}
use Rattle.dill_base.specs.declared.deadline.Deadline.TheVariants.{Never, At, After}

-- The moment is 0 at first, and then the greatest that a wait has told.
abbrev pub moment_after : ℕ → ℕ → ℕ
moment_after moment told = max moment told

-- a deadline after a while is set at the entry of its call, and no later than this
abbrev pub at_entry : ℕ → Deadline → Deadline
at_entry moment Never = Never
at_entry moment (At due) = At due
at_entry moment (After wait) = At (min (moment + wait) 9223372036854775807)

-- a moment is passed from itself on, and so 0 is always passed
abbrev pub is_passed : ℕ → Deadline → Bool
is_passed moment Never = false
is_passed moment (At due) = nat_le due moment
is_passed moment (After wait) = false
