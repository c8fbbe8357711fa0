-- What the statements without a call do, and what an answer does to the coroutine that it is given to.
use Rattle.std.specs.Prelude.{ℕ, ◌+◌, ◌-◌, min, List, [], ◌∷◌, Bool, true, false, not, ◌==◌, nat_lt, nat_le, Option, Some, None, bytes_eq}
use Rattle.dill_base.specs.declared.errno.Errno.{Errno}
use Rattle.dill_base.specs.Errnos.{errno_text}
use Rattle.dill_calls.specs.declared.answer.Answer.{Answer}
use Rattle.dill_calls.specs.declared.answer.Answer.TheVariants as answers
use Rattle.dill_script.specs.declared.operand.Dest.{Dest}
use Rattle.dill_script.specs.declared.operand.Dest.TheVariants as dests
use Rattle.dill_script.specs.declared.statement.Cond.{Cond}
use Rattle.dill_script.specs.declared.statement.Cond.TheVariants as conds
use Rattle.dill_script.specs.declared.statement.Relation.{Relation}
use Rattle.dill_script.specs.declared.statement.Relation.TheVariants.{Equal, Unequal, Less, AtMost, Greater, AtLeast}
use Rattle.dill_meaning.specs.Values.{num_value, bytes_value}
use Rattle.dill_meaning.specs.Views.{ScriptView, Round, number_in, bytes_in, with_number, with_bytes}

-- `add`: at most the greatest number
abbrev pub sum_of : ℕ → ℕ → ℕ
sum_of a b = min (a + b) 9223372036854775807

-- how two numbers compare
abbrev pub compares : Relation → ℕ → ℕ → Bool
compares Equal a b = a == b
compares Unequal a b = not (a == b)
compares Less a b = nat_lt a b
compares AtMost a b = nat_le a b
compares Greater a b = nat_lt b a
compares AtLeast a b = nat_le b a

-- the same errno, or none both times
abbrev pub is_same_errno : Option Errno → Option Errno → Bool
is_same_errno None None = true
is_same_errno (Some a) (Some b) = bytes_eq (errno_text a) (errno_text b)
is_same_errno _ _ = false

-- a condition holds of the registers and of `err`
abbrev pub holds : ScriptView → Cond → Bool
holds view (conds.Number place relation value) = compares relation (number_in view place) (num_value view value)
holds view (conds.Same place value) = bytes_eq (bytes_in view place) (bytes_value view value)
holds view (conds.Differs place value) = not (bytes_eq (bytes_in view place) (bytes_value view value))
holds view (conds.Err errno) = is_same_errno view.err errno

-- the first errno stays
abbrev pub first_errno : Option Errno → Option Errno → Option Errno
first_errno (Some earlier) later = Some earlier
first_errno None later = later

-- what a coroutine takes to `finally` or, behind it, to its end: no loop is open any more
abbrev pub leaving : ScriptView → Option Errno → ScriptView
leaving view errno = record view { rounds = []; outcome = first_errno view.outcome errno }

-- inside a loop of whose rounds so many are to come behind this one
abbrev pub entering : ScriptView → Option ℕ → ScriptView
entering view left = record view { rounds = record { first = view.passed; left = left } ∷ view.rounds }

-- outside the innermost loop
abbrev pub outside : List Round → List Round
outside [] = []
outside (round ∷ outer) = outer

-- the view outside the innermost loop
abbrev pub exiting : ScriptView → ScriptView
exiting view = record view { rounds = outside view.rounds }

-- a loop without end has always a round left
abbrev pub is_left : Option ℕ → Bool
is_left None = true
is_left (Some left) = nat_lt 0 left

-- the innermost loop has a round left
abbrev pub has_round : List Round → Bool
has_round [] = false
has_round (round ∷ outer) = is_left round.left

-- a round less to come; a loop without end has as many as before
abbrev pub one_less : Option ℕ → Option ℕ
one_less None = None
one_less (Some left) = Some (left - 1)

-- at the first statement of the innermost loop, for its next round
abbrev pub again : ScriptView → List Round → ScriptView
again view [] = view
again view (round ∷ outer) = record view { passed = round.first; rounds = record { first = round.first; left = one_less round.left } ∷ outer }

-- what an answer puts in its registers, one after the other; a choice without bytes leaves its byte register as it was
abbrev pub put : ScriptView → Option Dest → Answer → ScriptView
put view (Some (dests.Number place)) (answers.Number value) = with_number view place value
put view (Some (dests.Pair first second)) (answers.Pair a b) = with_number (with_number view first a) second b
put view (Some (dests.Bytes place)) (answers.Bytes value) = with_bytes view place value
put view (Some (dests.Two first second)) (answers.Two a b) = with_bytes (with_bytes view first a) second b
put view (Some (dests.Mixed first second)) (answers.Coded code value) = with_bytes (with_number view first code) second value
put view (Some (dests.Mixed first second)) (answers.Chosen index fault (Some value)) = with_bytes (with_number view first index) second value
put view (Some (dests.Mixed first second)) (answers.Chosen index fault None) = with_number view first index
put view _ _ = view

-- the fault in an answer: a clause's own counts
abbrev pub fault_in : Answer → Option Errno
fault_in (answers.Fault errno) = Some errno
fault_in (answers.Chosen index fault value) = fault
fault_in _ = None
