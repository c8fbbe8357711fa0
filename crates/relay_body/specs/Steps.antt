-- How a coroutine goes on: a mode and a view.
use Rattle.std.specs.Prelude.{◌≡◌, ◌<◌, length, Option, Some, None}
use Rattle.dill_calls.specs.declared.answer.Answer.{Answer}
use Rattle.dill_script.specs.declared.operand.Num.{Num}
use Rattle.dill_script.specs.declared.statement.Statement.{Statement}
use Rattle.dill_script.specs.declared.statement.Statement.TheVariants as statements
use Rattle.dill_meaning.specs.Views.{ScriptView, pending}
use Rattle.dill_meaning.specs.Walks as walks
use Rattle.dill_meaning.specs.Walks.{run, given}
use Rattle.relay_body.specs.declared.held.Held.{Held}
use Rattle.relay_body.specs.declared.mode.Mode.{Mode}
use Rattle.relay_body.specs.Modes.{meant, depth_of}
use Rattle.relay_body.specs.Seen.{seen}

-- what is held goes on with this mode and this view
pub record Goes (new : Held) (mode : Mode) (gone : walks.Mode × ScriptView) : Type 0 where
  pub way : meant mode ≡ gone.0
  pub view : seen new ≡ gone.1
  -- no block began on the way yet
  pub depth : depth_of mode ≡ 0

-- a statement that is run, if there is one
abbrev pub ran : ScriptView → Option Statement → walks.Mode × ScriptView
ran view None = (walks.Runs, view)
ran view (Some statement) = run view statement

-- where the last statement begins a loop, there is a slot for it
abbrev pub HasSlot : Held → Type 0
HasSlot held = (rounds : Option Num) → pending (seen held) ≡ Some (statements.Loop rounds) → length held.rounds < 4

-- how it goes on from the statement whose call was answered
abbrev pub answered : ScriptView → Answer → walks.Mode × ScriptView
answered view answer = given view answer (pending view)
