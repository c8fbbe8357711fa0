-- A choice of several clauses, entered one after the other.
use Rattle.std.specs.Prelude.{◌≡◌, ℕ, ◌+◌, List, [], ◌∷◌, ◌++◌, Bool, true, false, Option, Some, None, if◌then◌else◌}
use Rattle.std.specs.List.{list_all}
use Rattle.dill_chan.specs.declared.end.Wait.{Wait}
use Rattle.dill_chan.specs.declared.meeting.Meeting.{Meeting}
use Rattle.dill_chan.specs.declared.meeting.Meeting.TheVariants.{Met, Ended, Waits}
use Rattle.dill_chan.specs.Channels.{Channels, leave}
use Rattle.dill_chan.specs.Meetings.{meeting}
use Rattle.dill_chan.specs.Seats.{entered, is_of}

-- the clause waits on
abbrev pub is_waiting : Meeting → Bool
is_waiting Waits = true
is_waiting Ended = false
is_waiting (Met x) = false

-- what comes of a clause as it is entered
abbrev pub comes_of : Channels → Wait → Meeting
comes_of c x = meeting c x.who x.end x.want

-- the least clause that is done at its entry, counted from a number on; none is entered before the choice is made
abbrev pub least_done : Channels → ℕ → List Wait → Option (ℕ × Meeting)
least_done c n [] = None
least_done c n (x ∷ xs) = if is_waiting (comes_of c x) then least_done c (n + 1) xs else Some (n, comes_of c x)

-- the same, where each clause is entered before the next
abbrev pub done_in_turn : Channels → ℕ → List Wait → Option (ℕ × Meeting)
done_in_turn c n [] = None
done_in_turn c n (x ∷ xs) = if is_waiting (comes_of c x) then done_in_turn (entered c x) (n + 1) xs else Some (n, comes_of c x)

-- clauses wait behind all others, in their order
abbrev pub wait_all : Channels → List Wait → Channels
wait_all c xs = record c { waits = c.waits ++ xs }

-- the first of some clauses that is done at its entry, by its number; none of them is entered before
abbrev pub first_done : Channels → List Wait → Option (ℕ × Meeting)
first_done c [] = None
first_done c (x ∷ xs) = if is_waiting (comes_of c x) then first_done c xs else Some (x.clause, comes_of c x)

-- the clauses of one coroutine, entered one after the other, find the least that is done, as if none had been entered; and where it
-- then leaves, nothing is left of those that waited before
pub record ChoosesLeast : Type 0 where
  pub least : (c : Channels) (who n : ℕ) (xs : List Wait) → list_all (is_of who) xs ≡ true → done_in_turn c n xs ≡ least_done c n xs
  pub left : (c : Channels) (who : ℕ) (xs : List Wait) (x : Wait) → list_all (is_of who) xs ≡ true → x.who ≡ who → leave (entered (wait_all c xs) x) who ≡ leave (entered c x) who
  pub waits : (c : Channels) (x : Wait) → is_waiting (comes_of c x) ≡ true → entered c x ≡ wait_all c (x ∷ [])
