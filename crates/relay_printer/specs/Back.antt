-- What is printed of a script that was read is read as that script again.
use Rattle.std.specs.Prelude.{◌≡◌, ℕ, ◌≤◌, List, length, Bool, Ok}
use Rattle.dill_calls.specs.declared.word.Word.{Word}
use Rattle.dill_script.specs.declared.script.Program.{Program}
use Rattle.dill_script.specs.Printing.{canonical}
use Rattle.dill_script.specs.Reading.{script_with}

-- a text that is the canonical text of what was read is read as the same script, unless it is too long
abbrev pub PrintsBack : Type 0
PrintsBack = (built : Word → Bool) (text printed : List ℕ) (script : List Program) → script_with built text ≡ Ok script → printed ≡ canonical script → length printed ≤ 1048576 → script_with built printed ≡ Ok script
