-- The programs that the lines of a text start, in the order of the lines.
use Rattle.std.specs.Prelude.{◌≡◌, ℕ, ◌+◌, List, [], ◌∷◌, ◌++◌, find, Bool, not, Option, Some, None, option_and_then, option_map, Result, Ok, Err}
use Rattle.std.specs.List.{list_any}
use Rattle.dill_script.specs.declared.refusal.Refusal.{Refusal}
use Rattle.dill_script.specs.declared.script.Program.{Program}
use Rattle.dill_script.specs.Contexts.{head_of}
use Rattle.dill_script.specs.Reading.{Reading, started_by, takes}
use Rattle.dill_script.specs.Statements.{line_of}
use Rattle.relay_reader.specs.declared.linking.Unlinked.{Unlinked}
use Rattle.relay_reader.specs.declared.starts.Start.{Start}
use Rattle.relay_reader.specs.Telling.{Refuses}

-- the program that a line starts, and how many arguments it gives it
abbrev pub start_of : List ℕ → Option (List ℕ × ℕ)
start_of line = option_and_then started_by (line_of (head_of line))

-- what the line of this number starts, if it starts a program
abbrev pub start_at : ℕ → Option (List ℕ × ℕ) → List Start
start_at number None = []
start_at number (Some (name, args)) = record { line = number; name = name; args = args } ∷ []

-- what the lines from one on start
abbrev pub starts_from : ℕ → List (List ℕ) → List Start
starts_from number [] = []
starts_from number (line ∷ rest) = start_at number (start_of line) ++ starts_from (number + 1) rest

-- the program that is started isn't there, or takes another number of arguments
abbrev pub is_missing : List Program → Start → Bool
is_missing script start = not (list_any (takes (start.name, start.args)) script)

-- the line of the first that is missing
abbrev pub first_missing : List Program → List Start → Option ℕ
first_missing script starts = option_map (λ start. start.line) (find (is_missing script) starts)

-- the programs that are meant and what is started, or a refusal
abbrev pub Gathers : Result Unlinked Refusal → Reading → List Start → Type 0
Gathers (Ok unlinked) reading starts = (reading ≡ Ok unlinked.script) × (unlinked.starts.items ≡ starts)
Gathers (Err refusal) reading starts = Refuses refusal reading
