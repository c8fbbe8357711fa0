-- That an answer of a call's form is put whole in the registers before its `=`.
use Rattle.std.specs.Prelude.{◌≡◌, ◌≢◌, ℕ, List, length, slice_get, Bool, true, Some, None, Ok}
use Rattle.dill_calls.specs.CallTable.{form_of, answer_form}
use Rattle.dill_calls.specs.declared.answer.Answer.{Answer}
use Rattle.dill_calls.specs.declared.answer.Answer.TheVariants as answers
use Rattle.dill_calls.specs.declared.word.Word.{Word}
use Rattle.dill_script.specs.declared.form.Form.{Form}
use Rattle.dill_script.specs.declared.operand.Dest.{Dest}
use Rattle.dill_script.specs.declared.operand.Dest.TheVariants as dests
use Rattle.dill_script.specs.declared.script.Program.{Program}
use Rattle.dill_script.specs.declared.statement.Statement.TheVariants as statements
use Rattle.dill_script.specs.Reading.{script_with}
use Rattle.dill_meaning.specs.Effects.{put}
use Rattle.dill_meaning.specs.Meaning.{next, short, knows, child}
use Rattle.dill_meaning.specs.Views.{ScriptView, statements_of, number_in, bytes_in, main_of}

-- a view has 16 registers of each sort
pub record IsWide (view : ScriptView) : Type 0 where
  pub numbers : length view.numbers ≡ 16
  pub texts : length view.texts ≡ 16

-- the registers hold the answer; where one register stands twice, it holds the second value
abbrev pub Holds : ScriptView → ScriptView → Dest → Answer → Type 0
Holds old new (dests.Number place) (answers.Number value) = number_in new place ≡ value
Holds old new (dests.Pair first second) (answers.Pair a b) = (first ≢ second → number_in new first ≡ a) × (number_in new second ≡ b)
Holds old new (dests.Bytes place) (answers.Bytes value) = bytes_in new place ≡ value
Holds old new (dests.Two first second) (answers.Two a b) = (first ≢ second → bytes_in new first ≡ a) × (bytes_in new second ≡ b)
Holds old new (dests.Mixed first second) (answers.Coded code value) = (number_in new first ≡ code) × (bytes_in new second ≡ value)
Holds old new (dests.Mixed first second) (answers.Chosen index fault (Some value)) = (number_in new first ≡ index) × (bytes_in new second ≡ value)
Holds old new (dests.Mixed first second) (answers.Chosen index fault None) = (number_in new first ≡ index) × (bytes_in new second ≡ bytes_in old second)
Holds old new dest answer = ⊥

-- an answer of the form that its call has is put whole in the registers of a statement that was read
abbrev pub EachAnswerIsPut : Type 0
EachAnswerIsPut = (built : Word → Bool) (text : List ℕ) (view : ScriptView) (place : ℕ) (tried : Bool) (dest : Dest) (form : Form) (answer : Answer) → script_with built text ≡ Ok view.script → IsWide view → slice_get (statements_of view) place ≡ Some (statements.Call tried (Some dest) form) → answer_form answer ≡ Some (form_of form.word) → Holds view (put view (Some dest) answer) dest answer

-- the first coroutine of a script, and each that a script which was read starts, has 16 registers of each sort
pub record BeginsWide : Type 0 where
  pub main : (script : List Program) → IsWide (main_of script)
  pub child : (built : Word → Bool) (text : List ℕ) (view : ScriptView) (program : ℕ) (args : List ℕ) → script_with built text ≡ Ok view.script → knows view program (length args) ≡ true → IsWide (child view program args)

-- it keeps them over each turn, also where memory for its call was refused
abbrev pub StaysWide : Type 0
StaysWide = (view : ScriptView) (answer : Answer) → IsWide view → IsWide (next view answer).0 × IsWide (short view answer)
