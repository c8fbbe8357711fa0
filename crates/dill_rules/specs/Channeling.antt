-- What the calls of channels do that aren't refused: meetings, ends of a direction, and waiting.
use Rattle.std.specs.Prelude.{ℕ, ◌+◌, List, [], ◌∷◌, map, Bool, true, false, Option, Some, None, if◌then◌else◌}
use Rattle.dill_base.specs.declared.errno.Errno.TheVariants.{Epipe}
use Rattle.dill_calls.specs.declared.answer.Answer.{Answer}
use Rattle.dill_calls.specs.declared.answer.Answer.TheVariants as answers
use Rattle.dill_calls.specs.declared.call.Call.{Call}
use Rattle.dill_calls.specs.declared.call.Call.TheVariants as calls
use Rattle.dill_calls.specs.declared.lists.Clause.{Clause}
use Rattle.dill_calls.specs.declared.lists.Clause.TheVariants as clauses
use Rattle.dill_calls.specs.declared.word.Word.TheVariants as words
use Rattle.dill_calls.specs.CallTable.{word_of}
use Rattle.dill_chan.specs.declared.end.Want.TheVariants.{Send}
use Rattle.dill_chan.specs.declared.meeting.Meeting.{Meeting}
use Rattle.dill_chan.specs.declared.meeting.Meeting.TheVariants.{Met, Ended, Waits}
use Rattle.dill_chan.specs.Channels as channels
use Rattle.dill_chan.specs.Meetings.{has_ended, meeting}
use Rattle.dill_base.specs.Maps.{if_some}
use Rattle.dill_rules.specs.declared.thing.Thing.TheVariants as things
use Rattle.dill_rules.specs.World.{World, call_of, reply, pend}
use Rattle.dill_rules.specs.Naming.{end_of_clause}
use Rattle.dill_rules.specs.Effects.{next_number, make}
use Rattle.dill_rules.specs.Answers.{want_of, end_named}

-- the clause of this number, as its choice answers it
abbrev pub as_choice : ℕ → Answer → Answer
as_choice index (answers.Bytes bytes) = answers.Chosen index None (Some bytes)
as_choice index (answers.Fault errno) = answers.Chosen index (Some errno) None
as_choice index answer = answers.Chosen index None None

-- a clause's answer, as the call answers it
abbrev pub clause_answer : Call → ℕ → Answer → Answer
clause_answer (calls.Choose deadline all) index answer = as_choice index answer
clause_answer call index answer = answer

-- the clauses of a call; a plain send or receive is one
abbrev pub clauses_of : Call → List Clause
clauses_of (calls.Chsend number bytes deadline) = clauses.Send number bytes ∷ []
clauses_of (calls.Chrecv number size deadline) = clauses.Recv number size ∷ []
clauses_of (calls.Choose deadline all) = all
clauses_of _ = []

-- a clause without the bytes that it sends
abbrev pub bare_clause : Clause → Clause
bare_clause (clauses.Send number bytes) = clauses.Send number []
bare_clause (clauses.Recv number size) = clauses.Recv number size

-- A call without the bytes that it sends at channels. While it is pending, its clauses that wait have them.
abbrev pub without_bytes : Call → Call
without_bytes (calls.Chsend number bytes deadline) = calls.Chsend number [] deadline
without_bytes (calls.Choose deadline all) = calls.Choose deadline (map bare_clause all)
without_bytes call = call

-- the clause waits on
abbrev pub is_waiting : Meeting → Bool
is_waiting Waits = true
is_waiting _ = false

module _ {V : Type 0} where
  -- two ends of a new channel, each with its number
  abbrev pub make_channel : World V → ℕ → World V
  make_channel w who =
      let ends = channels.next_ends w.channels in
      reply (make (make (record w { channels = channels.make w.channels }) (things.End ends.0) who) (things.End ends.1) who) who words.Chmake (answers.Pair (next_number w) (next_number w + 1))

  -- the sending direction of an end is done, unless it was done or the other end is gone
  abbrev pub done_at : World V → ℕ → ℕ → World V
  done_at w who end =
      if has_ended w.channels end (Send []) then reply w who words.Chdone (answers.Fault Epipe)
      else reply (record w { channels = channels.done w.channels end }) who words.Chdone (answers.Number 0)

  abbrev pub channel_done : World V → ℕ → ℕ → World V
  channel_done w who number = if_some (end_named w number) w (λ end. done_at w who end)

  -- what comes of a clause as it is entered
  abbrev pub meeting_of : World V → ℕ → Clause → Meeting
  meeting_of w who x = if_some (end_named w (end_of_clause x)) Waits (λ end. meeting w.channels who end (want_of x))

  -- a coroutine that was pending is answered for one of its clauses
  abbrev pub answer_clause : World V → ℕ → ℕ → Answer → World V
  answer_clause w who index answer = if_some (call_of w who) w (λ call. reply w who (word_of call) (clause_answer call index answer))

  -- the caller's clause has its end, or meets another's, and both are answered
  abbrev pub meet : World V → ℕ → Call → ℕ → Meeting → World V
  meet w who call index (Met x) = reply (answer_clause w x.other x.clause x.others) who (word_of call) (clause_answer call index x.answer)
  meet w who call index Ended = reply w who (word_of call) (clause_answer call index (answers.Fault Epipe))
  meet w who call index Waits = w

  -- a clause waits at its end
  abbrev pub wait_at : World V → ℕ → ℕ → Clause → World V
  wait_at w who index x =
      if_some (end_named w (end_of_clause x)) w (λ end. record w { channels = channels.wait w.channels (record { who = who; clause = index; end = end; want = want_of x }) })

  -- the clauses wait, counted from a number on
  abbrev pub wait_all : World V → ℕ → ℕ → List Clause → World V
  wait_all w who index [] = w
  wait_all w who index (x ∷ xs) = wait_all (wait_at w who index x) who (index + 1) xs

  -- the least clause that is done at its entry, counted from a number on
  abbrev pub first_done : World V → ℕ → ℕ → List Clause → Option (ℕ × Meeting)
  first_done w who index [] = None
  first_done w who index (x ∷ xs) = if is_waiting (meeting_of w who x) then first_done w who (index + 1) xs else Some (index, meeting_of w who x)

  -- The least clause that can be done decides. Where none can, all of them wait, and have the bytes of the call.
  abbrev pub enter_channel : World V → ℕ → Call → World V
  enter_channel w who call =
      if_some (first_done w who 0 (clauses_of call)) (wait_all (pend w who (without_bytes call)) who 0 (clauses_of call)) (λ x. meet w who call x.0 x.1)
