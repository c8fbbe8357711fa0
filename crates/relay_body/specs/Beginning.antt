-- How the run of a script that was read begins.
use Rattle.std.specs.Prelude.{◌≡◌, ℕ, List, true, Ok}
use Rattle.dill_calls.specs.Program.{Begins}
use Rattle.dill_meaning.specs.Views.{main_of}
use Rattle.dill_script.specs.declared.script.Program.{Program}
use Rattle.dill_script.specs.Reading.{script_with}
use Rattle.relay_body.specs.Running.{is_runnable, running}
use Rattle.dill_calls.specs.CallTable.{is_built}

-- The script can be run, and its program `main` begins it.
pub record CanBegin (script : List Program) : Type 0 where
  pub runs : is_runnable script ≡ true
  pub begins : Begins running (main_of script)

-- Each script that is read from a text can begin.
abbrev pub ScriptsBegin : Type 0
ScriptsBegin = (text : List ℕ) (script : List Program) → script_with is_built text ≡ Ok script → CanBegin script
