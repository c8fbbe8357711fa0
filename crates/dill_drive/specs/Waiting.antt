-- Who waits, by rising number, and the lines of notes and of those who wait.
use Rattle.std.specs.Prelude.{ℕ, ◌<◌, List, [], ◌∷◌, Option, Bool, find, nat_lt, flat_map, if◌then◌else◌}
use Rattle.dill_calls.specs.declared.ran.Note.{Note}
use Rattle.dill_calls.specs.declared.word.Word.{Word}
use Rattle.relay_trace.specs.Lines.{note_line, waiting_line}

-- the first above a number
abbrev pub next_above : ℕ → List (ℕ × Word) → Option (ℕ × Word)
next_above after waiting = find (λ one. nat_lt after one.0) waiting

-- the numbers rise, each of them above this one
abbrev pub Rises : ℕ → List (ℕ × Word) → Type 0
Rises after [] = Unit {0}
Rises after (one ∷ more) = (after < one.0) × Rises one.0 more

-- a line for each of those who wait
abbrev pub waiter_lines : List (ℕ × Word) → List ℕ
waiter_lines waiting = flat_map (λ one. waiting_line one.0 one.1) waiting

-- the notes of a step, in a trace
abbrev pub note_lines : Bool → List Note → List ℕ
note_lines traced notes = if traced then flat_map note_line notes else []
