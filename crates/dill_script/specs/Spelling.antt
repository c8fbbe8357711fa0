-- Which texts spell a script, and what reading and printing promise each other.
use Rattle.std.specs.Prelude.{◌≡◌, ℕ, ◌≤◌, List, [], length, map, filter, Bool, true, not, ◌&&◌, is_some, Option, Some, None, ◌∷◌, unwrap_or, nat_le, codes, Ok}
use Rattle.std.specs.List.{list_all, list_any}
use Rattle.dill_calls.specs.declared.word.Word.{Word}
use Rattle.dill_script.specs.declared.script.Program.{Program}
use Rattle.dill_script.specs.Contexts.{places}
use Rattle.dill_script.specs.Fitting.{is_formed, all_say}
use Rattle.dill_script.specs.Refusals.{has_name}
use Rattle.dill_script.specs.Lines.{lines_of, is_line_byte, has_tokens}
use Rattle.dill_script.specs.Printing.{script_lines, canonical}
use Rattle.dill_script.specs.declared.statement.Statement.{Statement}
use Rattle.dill_script.specs.declared.statement.Statement.TheVariants as statements
use Rattle.dill_script.specs.Reading.{started_by, takes, script_with}
use Rattle.dill_script.specs.Statements.{Says, params_fit}
use Rattle.dill_script.specs.Tokens.{Token, tokens}

-- the tokens of a line, where it is well formed
abbrev pub tokens_in : List ℕ → List Token
tokens_in line = unwrap_or (tokens line) []

-- the tokens of the lines that have some
abbrev pub spoken : List (List ℕ) → List (List Token)
spoken lines = map tokens_in (filter has_tokens lines)

-- a text spells a script: its lines have bytes and texts as they may be, and the tokens of those that have some are the script's lines
pub record Spells (script : List Program) (text : List ℕ) : Type 0 where
  pub bytes : list_all (λ line. list_all is_line_byte line) (lines_of text) ≡ true
  pub texts : list_all (λ line. is_some (tokens line)) (lines_of text) ≡ true
  pub lines : spoken (lines_of text) ≡ script_lines script

-- what is read is spelled by its text
abbrev pub ReadsSpelling : Type 0
ReadsSpelling = (built : Word → Bool) (text : List ℕ) (script : List Program) → script_with built text ≡ Ok script → Spells script text

-- what one text was read as, each text that spells it is read as, unless it is too long
abbrev pub ReadsEachSpelling : Type 0
ReadsEachSpelling = (built : Word → Bool) (text other : List ℕ) (script : List Program) → script_with built text ≡ Ok script → Spells script other → length other ≤ 1048576 → script_with built other ≡ Ok script

-- the canonical text of what is read spells it
abbrev pub CanonicalSpells : Type 0
CanonicalSpells = (built : Word → Bool) (text : List ℕ) (script : List Program) → script_with built text ≡ Ok script → Spells script (canonical script)

-- so the canonical text of what is read is read as the same, unless it is too long
abbrev pub ReadsBack : Type 0
ReadsBack = (built : Word → Bool) (text : List ℕ) (script : List Program) → script_with built text ≡ Ok script → length (canonical script) ≤ 1048576 → script_with built (canonical script) ≡ Ok script

-- a program has at most 4,096 places
abbrev pub is_sized : Program → Bool
is_sized program = nat_le (places program.statements) 4096

-- what is read is within the limits on programs and places, and has a program `main`
pub record IsWithin (script : List Program) : Type 0 where
  pub programs : length script ≤ 256
  pub places : list_all is_sized script ≡ true
  pub main : list_any (has_name (codes "main")) script ≡ true

-- what is read is within the limits
abbrev pub ReadsWithin : Type 0
ReadsWithin = (built : Word → Bool) (text : List ℕ) (script : List Program) → script_with built text ≡ Ok script → IsWithin script

-- the calls of what is read have operands and registers as their words ask for them
abbrev pub ReadsFormed : Type 0
ReadsFormed = (built : Word → Bool) (text : List ℕ) (script : List Program) → script_with built text ≡ Ok script → all_say is_formed script ≡ true

-- no two programs have one name
abbrev pub are_apart : List Program → Bool
are_apart [] = true
are_apart (program ∷ rest) = not (list_any (has_name program.name) rest) && are_apart rest

-- so it is in what is read
abbrev pub ReadsApart : Type 0
ReadsApart = (built : Word → Bool) (text : List ℕ) (script : List Program) → script_with built text ≡ Ok script → are_apart script ≡ true

-- the program that is started, if any is, is there, with so many parameters as it is given arguments
abbrev pub is_there : List Program → Option (List ℕ × ℕ) → Bool
is_there script None = true
is_there script (Some start) = list_any (takes start) script

-- so it is with the program that a statement starts
abbrev pub starts_there : List Program → Statement → Bool
starts_there script statement = is_there script (started_by (Says statement))

-- so it is with each statement of what is read
abbrev pub ReadsStarts : Type 0
ReadsStarts = (built : Word → Bool) (text : List ℕ) (script : List Program) → script_with built text ≡ Ok script → all_say (starts_there script) script ≡ true

-- a program takes at most 16 arguments, and `main` none
abbrev pub takes_its : Program → Bool
takes_its program = params_fit program.name program.params && nat_le program.params 16

-- so it is with the programs of what is read
abbrev pub ReadsMains : Type 0
ReadsMains = (built : Word → Bool) (text : List ℕ) (script : List Program) → script_with built text ≡ Ok script → list_all takes_its script ≡ true

-- a statement whose call, if it makes one, is built
abbrev pub says_built : (Word → Bool) → Statement → Bool
says_built built (statements.Call tried dest form) = built form.word
says_built built _ = true

-- so it is with each statement of what is read
abbrev pub ReadsBuilt : Type 0
ReadsBuilt = (built : Word → Bool) (text : List ℕ) (script : List Program) → script_with built text ≡ Ok script → all_say (says_built built) script ≡ true
