-- What a script that was read promises of its calls: each statement of a call makes one where it is run, and it is its own.
use Rattle.std.specs.Prelude.{◌≡◌, ℕ, List, length, slice_get, Bool, true, Option, Some, Ok, codes}
use Rattle.dill_calls.specs.declared.answer.Answer.{Answer}
use Rattle.dill_calls.specs.declared.call.Call.{Call}
use Rattle.dill_calls.specs.declared.call.Call.TheVariants as calls
use Rattle.dill_calls.specs.declared.word.Word.{Word}
use Rattle.dill_calls.specs.Program.{Calls}
use Rattle.dill_script.specs.declared.form.Form.{Form}
use Rattle.dill_script.specs.declared.operand.Dest.{Dest}
use Rattle.dill_script.specs.declared.script.Program.{Program}
use Rattle.dill_script.specs.declared.statement.Statement.TheVariants as statements
use Rattle.dill_script.specs.Reading.{script_with}
use Rattle.dill_meaning.specs.Making.{Makes, MakesItsOwn}
use Rattle.dill_meaning.specs.Meaning.{next, knows}
use Rattle.dill_meaning.specs.Views.{ScriptView, statements_of, pending, main_of}
use Rattle.dill_meaning.specs.Walks.{call_at}

-- the program that a call starts, if it starts one, is in its script, with so many parameters as the call has arguments
abbrev pub KnowsStarted : ScriptView → Option Call → Type 0
KnowsStarted view (Some (calls.Go program args)) = knows view program (length args) ≡ true
KnowsStarted view (Some (calls.BundleGo h program args)) = knows view program (length args) ≡ true
KnowsStarted view _ = Unit {0}

-- each statement of a call in a script that was read makes the call of its form, and starts no program that isn't there
abbrev pub EachStatementMakes : Type 0
EachStatementMakes = (built : Word → Bool) (text : List ℕ) (view : ScriptView) (place : ℕ) (tried : Bool) (dest : Option Dest) (form : Form) → script_with built text ≡ Ok view.script → slice_get (statements_of view) place ≡ Some (statements.Call tried dest form) → MakesItsOwn view form (call_at view (statements.Call tried dest form)) × KnowsStarted view (call_at view (statements.Call tried dest form))

-- so a turn that stops at such a statement makes that call, with what its registers hold there
abbrev pub EachTurnMakes : Type 0
EachTurnMakes = (built : Word → Bool) (text : List ℕ) (view new : ScriptView) (answer : Answer) (call : Call) (tried : Bool) (dest : Option Dest) (form : Form) → script_with built text ≡ Ok view.script → next view answer ≡ (new, Calls call) → pending new ≡ Some (statements.Call tried dest form) → Makes new form call × KnowsStarted new (Some call)

-- a script that was read begins at its program `main`, which takes no arguments
abbrev pub MainIsThere : Type 0
MainIsThere = (built : Word → Bool) (text : List ℕ) (script : List Program) → script_with built text ≡ Ok script → (program : Program) × (slice_get script (main_of script).program ≡ Some program) × (program.name ≡ codes "main") × (program.params ≡ 0)
