-- The channel meeting: when a clause has its end, and whom it meets.
use Rattle.std.specs.Prelude.{ℕ, ◌==◌, List, [], ◌∷◌, length, filter, find, Bool, true, false, not, ◌&&◌, ◌||◌, Option, Some, None, option_map, if◌then◌else◌, nat_lt}
use Rattle.dill_base.specs.declared.errno.Errno.TheVariants.{Emsgsize}
use Rattle.dill_calls.specs.declared.answer.Answer.{Answer}
use Rattle.dill_calls.specs.declared.answer.Answer.TheVariants.{Number, Bytes, Fault}
use Rattle.dill_base.specs.Maps.{if_some}
use Rattle.dill_chan.specs.declared.end.Wait.{Wait}
use Rattle.dill_chan.specs.declared.end.Want.{Want}
use Rattle.dill_chan.specs.declared.end.Want.TheVariants.{Send, Recv}
use Rattle.dill_chan.specs.declared.meeting.Meeting.{Meeting}
use Rattle.dill_chan.specs.declared.meeting.Meeting.TheVariants as meetings
use Rattle.dill_chan.specs.Channels.{Channels, is_live, is_done, other_end}

-- the other end isn't live
abbrev pub is_alone : Channels → ℕ → Bool
is_alone c end = if_some (other_end c end) true (λ other. not (is_live c other))

-- the other end's sending direction is done
abbrev pub is_over : Channels → ℕ → Bool
is_over c end = if_some (other_end c end) false (λ other. is_done c other)

-- EPIPE: a send has its end where its own end is done, a receive where the other one is, and each where the other end isn't live
abbrev pub has_ended : Channels → ℕ → Want → Bool
has_ended c end (Send bytes) = is_done c end || is_alone c end
has_ended c end (Recv size) = is_over c end || is_alone c end

-- one of them sends and the other receives
abbrev pub is_opposite : Want → Want → Bool
is_opposite (Send bytes) (Recv size) = true
is_opposite (Recv size) (Send bytes) = true
is_opposite _ _ = false

-- a clause of another coroutine at the other end, of the other sort
abbrev pub can_meet : Channels → ℕ → ℕ → Want → Wait → Bool
can_meet c who end want x = not (x.who == who) && (if_some (other_end c end) false (λ other. x.end == other) && is_opposite want x.want)

-- of these the one that has waited longest
abbrev pub partner : Channels → ℕ → ℕ → Want → Option Wait
partner c who end want = find (can_meet c who end want) c.waits

-- the answers of a sender and of its receiver
abbrev pub answers : List ℕ → ℕ → Answer × Answer
answers bytes size = if length bytes == size then (Number 0, Bytes bytes) else (Fault Emsgsize, Fault Emsgsize)

-- the caller's answer and the other's
abbrev pub answers_of : Want → Want → Answer × Answer
answers_of (Send bytes) (Recv size) = answers bytes size
answers_of (Recv size) (Send bytes) = ((answers bytes size).1, (answers bytes size).0)
answers_of _ _ = (Fault Emsgsize, Fault Emsgsize)

-- the caller meets a clause that waits
abbrev pub met : Want → Wait → Meeting
met want x = meetings.Met (record { other = x.who; clause = x.clause; answer = (answers_of want x.want).0; others = (answers_of want x.want).1 })

-- what comes of a clause that is entered at a live end
abbrev pub meeting : Channels → ℕ → ℕ → Want → Meeting
meeting c who end want = if has_ended c end want then meetings.Ended else if_some (partner c who end want) meetings.Waits (λ x. met want x)

-- of two clauses that of the lower coroutine, and of one coroutine the lesser
abbrev pub is_before : Wait → Wait → Bool
is_before x y = nat_lt x.who y.who || (x.who == y.who && nat_lt x.clause y.clause)

abbrev pub first_of_two : Wait → Option Wait → Option Wait
first_of_two x None = Some x
first_of_two x (Some y) = if is_before x y then Some x else Some y

-- the first of all by coroutine and clause
abbrev pub first_wait : List Wait → Option Wait
first_wait [] = None
first_wait (x ∷ xs) = first_of_two x (first_wait xs)

-- the least waiter above a number that has its end, with the least of its clauses that has it
abbrev pub next_ended : Channels → ℕ → Option (ℕ × ℕ)
next_ended c after = option_map (λ x. (x.who, x.clause)) (first_wait (filter (λ x. nat_lt after x.who && (is_live c x.end && has_ended c x.end x.want)) c.waits))
