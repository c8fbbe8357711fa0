-- What the body of channels holds: channels, and the coroutines that have a seat; what each call leaves of them.
use Rattle.std.specs.Prelude.{◌≡◌, ℕ, ◌*◌, ◌≤◌, ◌+◌, ◌==◌, List, [], ◌∷◌, ◌++◌, length, filter, Bool, true, not, ◌&&◌, ◌||◌, nat_lt, nat_le, Option, Some, None, if◌then◌else◌}
use Rattle.std.specs.List.{list_any, list_all}
use Rattle.dill_slots.specs.Pairs.{each_pair, has}
use Rattle.dill_chan.specs.declared.end.End.{End}
use Rattle.dill_chan.specs.declared.end.Wait.{Wait}
use Rattle.dill_chan.specs.declared.end.Want.{Want}
use Rattle.dill_chan.specs.declared.end.Want.TheVariants.{Send}
use Rattle.dill_chan.specs.declared.meeting.Met.{Met}
use Rattle.dill_chan.specs.declared.meeting.Meeting.{Meeting}
use Rattle.dill_chan.specs.declared.meeting.Meeting.TheVariants as meetings
use Rattle.dill_chan.specs.Channels.{Channels, no_channels, is_live, wait, leave, done}
use Rattle.dill_chan.specs.Meetings.{has_ended, is_opposite, answers_of, meeting}

-- channels, and who has a seat, in rising order
pub record Seated : Type 0 where
  pub channels : Channels
  pub seats : List ℕ

abbrev pub nobody : Seated
nobody = record { channels = no_channels; seats = [] }

abbrev pub channels_of : List End → List Wait → ℕ → Channels
channels_of ends waits last = record { ends = ends; waits = waits; last = last }

abbrev pub seated : List End → List Wait → List ℕ → ℕ → Seated
seated ends waits seats last = record { channels = channels_of ends waits last; seats = seats }

-- channels at whose ends nobody waits
abbrev pub of_ends : List End → Channels
of_ends ends = channels_of ends [] 0

-- how many have a seat at most
abbrev pub most_seats : ℕ
most_seats = 65536

-- how many clauses of a coroutine wait at most
abbrev pub most_clauses : ℕ
most_clauses = 16

-- the channels are changed
abbrev pub on_channels : (Channels → Channels) → Seated → Seated
on_channels f s = record s { channels = f s.channels }

abbrev pub has_seat : Seated → ℕ → Bool
has_seat s who = has s.seats who

-- a coroutine has a greater number than all that have a seat
abbrev pub is_above_all : Seated → ℕ → Bool
is_above_all s who = list_all (λ other. nat_lt other who) s.seats

-- it is a clause of this coroutine
abbrev pub is_of : ℕ → Wait → Bool
is_of who x = x.who == who

-- it is a clause of another coroutine
abbrev pub is_others : ℕ → Wait → Bool
is_others who x = not (x.who == who)

-- it is this clause of this coroutine
abbrev pub is_under : ℕ → ℕ → Wait → Bool
is_under who clause x = (x.who == who) && (x.clause == clause)

-- two that wait are two clauses, or of two coroutines
abbrev pub are_two_waits : Wait → Wait → Bool
are_two_waits x y = not ((x.who == y.who) && (x.clause == y.clause))

-- a coroutine waits under some clause
abbrev pub is_waiting : Channels → ℕ → Bool
is_waiting c who = list_any (is_of who) c.waits

-- a coroutine waits under this clause
abbrev pub waits_under : Channels → ℕ → ℕ → Bool
waits_under c who clause = list_any (is_under who clause) c.waits

-- a coroutine has a seat
abbrev pub seat : Seated → ℕ → Seated
seat s who = record s { seats = s.seats ++ who ∷ [] }

-- a coroutine has no seat
abbrev pub unseat : Seated → ℕ → Seated
unseat s who = record s { seats = filter (λ other. not (other == who)) s.seats }

-- there is room for the clauses of a coroutine: it has a seat, and waits nowhere
abbrev pub has_room_for : Seated → ℕ → Bool
has_room_for s who = has_seat s who && not (is_waiting s.channels who)

-- a coroutine has no seat any more, if it waits nowhere
abbrev pub rise : Seated → ℕ → Seated
rise s who = if has_room_for s who then unseat s who else s

-- what a meeting leaves: who was met waits under no clause any more, and a clause that meets nobody waits behind all others
abbrev pub left_by : Meeting → Channels → Wait → Channels
left_by (meetings.Met x) c w = leave c x.other
left_by meetings.Ended c w = c
left_by meetings.Waits c w = wait c w

-- a clause was entered
abbrev pub entered : Channels → Wait → Channels
entered c w = left_by (meeting c w.who w.end w.want) c w

-- a clause of another coroutine at this end, of the other sort
abbrev pub could_meet : ℕ → ℕ → Want → Wait → Bool
could_meet who other want x = not (x.who == who) && (x.end == other && is_opposite want x.want)

-- whom the caller met, and both answers
abbrev pub met : Want → Wait → Met
met want x = record { other = x.who; clause = x.clause; answer = (answers_of want x.want).0; others = (answers_of want x.want).1 }

-- the sending direction of an end is done, unless it was done or the other end is gone
abbrev pub done_unless_ended : Channels → ℕ → Channels
done_unless_ended c end = if has_ended c end (Send []) then c else done c end

-- a clause of a coroutine above a number waits at a live end and has its end
abbrev pub is_ended : Channels → ℕ → Wait → Bool
is_ended c after x = nat_lt after x.who && (is_live c x.end && has_ended c x.end x.want)

-- the lesser of two coroutines with their clauses
abbrev pub closer : Option (ℕ × ℕ) → Option (ℕ × ℕ) → Option (ℕ × ℕ)
closer None b = b
closer (Some a) None = Some a
closer (Some a) (Some b) = if nat_lt a.0 b.0 || (a.0 == b.0 && nat_lt a.1 b.1) then Some a else Some b

-- the least of those that have their end
abbrev pub ended_in : Channels → ℕ → List Wait → Option (ℕ × ℕ)
ended_in c after [] = None
ended_in c after (x ∷ xs) = closer (if is_ended c after x then Some (x.who, x.clause) else None) (ended_in c after xs)

-- a clause that waits is one of who has a seat
abbrev pub may_wait : List ℕ → Wait → Bool
may_wait seats x = list_any (λ other. other == x.who) seats && nat_lt x.clause most_clauses

-- clauses of one coroutine, whose numbers rise from one on
abbrev pub are_clauses : ℕ → ℕ → List Wait → Bool
are_clauses who from [] = true
are_clauses who from (x ∷ xs) = (x.who == who && (nat_le from x.clause && nat_lt x.clause most_clauses)) && are_clauses who (x.clause + 1) xs

-- what the body keeps: seats rise, a clause waits once and is one of who has a seat, and there is room for all clauses of these
pub record IsHeld (waits : List Wait) (seats : List ℕ) (room : ℕ) : Type 0 where
  pub rising : each_pair nat_lt seats ≡ true
  pub few : length seats ≤ most_seats
  pub once : each_pair are_two_waits waits ≡ true
  pub among : list_all (may_wait seats) waits ≡ true
  pub enough : length seats * most_clauses ≤ room
