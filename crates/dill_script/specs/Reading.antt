-- What a text of a script means: its programs, or the one line and reason of its refusal.
use Rattle.std.specs.Prelude.{ℕ, ◌+◌, List, [], ◌∷◌, length, Bool, true, false, not, ◌&&◌, ◌==◌, nat_lt, Option, Some, None, option_and_then, Result, Ok, Err, codes}
use Rattle.std.specs.List.{list_any}
use Rattle.dill_calls.specs.declared.word.Word.{Word}
use Rattle.dill_script.specs.declared.form.Operand.{Operand}
use Rattle.dill_script.specs.declared.form.Operand.TheVariants as operands
use Rattle.dill_script.specs.declared.refusal.Reason.{Reason}
use Rattle.dill_script.specs.declared.refusal.Reason.TheVariants.{NoVersion, NoProgram, NoMain, TooLarge}
use Rattle.dill_script.specs.declared.script.Program.{Program}
use Rattle.dill_script.specs.declared.statement.Statement.TheVariants as statements
use Rattle.dill_script.specs.Blocks.{is_empty}
use Rattle.dill_script.specs.Contexts.{Context, opening, after, head_of}
use Rattle.dill_script.specs.Lines.{lines_of, has_tokens}
use Rattle.dill_script.specs.Refusals.{faults, first_reason, has_name, is_some_with}
use Rattle.dill_script.specs.Statements.{Line, Says, line_of}

-- the programs, or the line and the reason of the refusal
abbrev pub Reading : Type 0
Reading = Result (List Program) (ℕ × Reason)

-- the refusal of a line against which a reason holds, or what follows
abbrev pub refused_or : ℕ → Option Reason → Reading → Reading
refused_or number (Some reason) further = Err (number, reason)
refused_or number None further = further

-- the lines from one on, up to the first against which a reason holds
abbrev pub judged : (Word → Bool) → ℕ → Context → List (List ℕ) → Reading
judged built number context [] = Ok context.whole
judged built number context (line ∷ rest) =
    let further = judged built (number + 1) (after context line) rest in
    refused_or number (first_reason (faults built context (is_empty rest) line)) further

-- the program that a call starts, and how many arguments it gives it
abbrev pub started : List Operand → Option (List ℕ × ℕ)
started [] = None
started (operands.Program name ∷ args) = Some (name, length args)
started (_ ∷ rest) = started rest

-- the program that a line starts
abbrev pub started_by : Line → Option (List ℕ × ℕ)
started_by (Says (statements.Call tried dest form)) = started form.operands
started_by _ = None

-- a program of this name with so many parameters
abbrev pub takes : List ℕ × ℕ → Program → Bool
takes (name, args) program = has_name name program && (program.params == args)

-- the line starts a program that isn't there, or with another number of arguments
abbrev pub starts_none : List Program → List ℕ → Bool
starts_none script line = is_some_with (λ start. not (list_any (takes start) script)) (option_and_then started_by (line_of (head_of line)))

-- the line where it does, or what follows
abbrev pub here_or : ℕ → Bool → Option ℕ → Option ℕ
here_or number true further = Some number
here_or number false further = further

-- the first of the lines from one on that does
abbrev pub first_without : List Program → ℕ → List (List ℕ) → Option ℕ
first_without script number [] = None
first_without script number (line ∷ rest) =
    let further = first_without script (number + 1) rest in
    here_or number (starts_none script line) further

-- a script that has a program `main`, if that holds
abbrev pub with_main : Bool → List Program → Reading
with_main true script = Ok script
with_main false script = Err (1, NoMain)

-- a script whose programs are there, or the line that starts one that isn't
abbrev pub with_programs : Option ℕ → List Program → Reading
with_programs (Some number) script = Err (number, NoProgram)
with_programs None script = with_main (list_any (has_name (codes "main")) script) script

-- lines without a fault: each program that is started has to be there, and then one named `main`
abbrev pub linked : List (List ℕ) → Reading → Reading
linked lines (Err refusal) = Err refusal
linked lines (Ok script) = with_programs (first_without script 1 lines) script

-- what lines give of which one has tokens, if that holds
abbrev pub with_version : Bool → Reading → Reading
with_version true reading = reading
with_version false reading = Err (1, NoVersion)

-- the script of these lines
abbrev pub of_lines : (Word → Bool) → List (List ℕ) → Reading
of_lines built lines =
    let reading = linked lines (judged built 1 opening lines) in
    with_version (list_any has_tokens lines) reading

-- what a text gives that isn't too large, if that holds
abbrev pub unless_large : Bool → Reading → Reading
unless_large true reading = Err (1, TooLarge)
unless_large false reading = reading

-- the script of a text, while these calls are built
abbrev pub script_with : (Word → Bool) → List ℕ → Reading
script_with built bytes =
    let reading = of_lines built (lines_of bytes) in
    unless_large (nat_lt 1048576 (length bytes)) reading

-- the script of a text
abbrev pub script_of : List ℕ → Reading
script_of bytes = script_with (λ word. true) bytes
