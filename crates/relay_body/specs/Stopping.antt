-- Where a coroutine stops, and what it makes there.
use Rattle.std.specs.Prelude.{◌≡◌, ℕ, ◌<◌, ◌≤◌, ◌⊎◌, ◌++◌, List, length, Bool, true, false, Option, Some, None, Result, Ok, Err}
use Rattle.dill_base.specs.declared.errno.NoMemory.{NoMemory}
use Rattle.dill_calls.specs.CallTable.{build_takes_memory}
use Rattle.dill_calls.specs.declared.body.Next.{Next}
use Rattle.dill_calls.specs.declared.body.Next.TheVariants as nexts
use Rattle.dill_calls.specs.declared.call.Call.{Call}
use Rattle.dill_calls.specs.declared.call.Call.TheVariants.{Pass}
use Rattle.dill_calls.specs.declared.word.Word.TheVariants.{Set, Join}
use Rattle.dill_calls.specs.Program.{Calls, moved_word}
use Rattle.dill_script.specs.declared.statement.Statement.{Statement}
use Rattle.dill_meaning.specs.Meaning.{moved}
use Rattle.dill_meaning.specs.Views.{ScriptView, statements_of, pending, ahead, bytes_in, with_bytes}
use Rattle.dill_meaning.specs.Walks as walks
use Rattle.dill_meaning.specs.Walks.{Stop, behind, call_at, passing, walk}
use Rattle.relay_body.specs.declared.held.Held.{Held}
use Rattle.relay_body.specs.declared.mode.Mode.{Mode}
use Rattle.relay_body.specs.Modes.{meant}
use Rattle.relay_body.specs.Seen.{seen}

-- a statement more is behind
pub record PassedOne (old new : Held) : Type 0 where
  pub there : old.passed < length (statements_of (seen old))
  pub view : seen new ≡ passing (seen old)

-- the next statement is passed, or none is ahead
abbrev pub Passes : Held → Held → Bool → Type 0
Passes old new true = PassedOne old new
Passes old new false = (new ≡ old) × (length (statements_of (seen old)) ≤ old.passed)

-- the mode and the view behind a statement that makes no call, if there is one
abbrev pub behind_at : walks.Mode → ScriptView → Option Statement → walks.Mode × ScriptView
behind_at mode view None = (mode, view)
behind_at mode view (Some statement) = behind mode view statement

-- a statement and its call, if it makes one
abbrev pub with_call : Statement → Option Call → Option (Statement × Call)
with_call statement None = None
with_call statement (Some call) = Some (statement, call)

-- what a statement makes
abbrev pub made_by : ScriptView → Option Statement → Option (Statement × Call)
made_by view None = None
made_by view (Some statement) = with_call statement (call_at view statement)

-- what is made where a walk stopped: the call of the last statement, or none at the end
abbrev pub made_at : ScriptView → Bool → Option (Statement × Call)
made_at view true = made_by view (pending view)
made_at view false = None

-- what is made in this mode
abbrev pub made_in : walks.Mode → ScriptView → Option (Statement × Call)
made_in walks.Runs view = made_at view true
made_in mode view = None

-- a walk leads here
abbrev pub WalksTo : Held → Held → Mode → Bool → Type 0
WalksTo old new mode stopped = walk (meant mode) (seen old) (ahead (seen old)) ≡ record { view = seen new; made = made_at (seen new) stopped }

-- a call is made, or memory for it was refused
abbrev pub MakesOne : Held → Held → Next → Type 0
MakesOne old new (nexts.Call call) = moved (seen old) (made_at (seen old) true) ≡ (seen new, Calls call)
MakesOne old new (nexts.Lack word) = (build_takes_memory word ≡ true) × (moved_word (moved (seen old) (made_at (seen old) true)).1 ≡ Some word) × (new ≡ old)
MakesOne old new (nexts.End outcome) = ⊥

-- a copy of bytes was put in a register, or there was no memory for it
abbrev pub Keeps : Held → Held → ℕ → Result (List ℕ) NoMemory → Next → Type 0
Keeps old new place (Ok value) next = (next ≡ nexts.Call (Pass Set None)) × (seen new ≡ with_bytes (seen old) place value)
Keeps old new place (Err lack) next = (next ≡ nexts.Lack Set) × (new ≡ old)

-- a copy of bytes was put behind those in a register, or there was no memory for that
abbrev pub Joins : Held → Held → ℕ → Result (List ℕ) NoMemory → Next → Type 0
Joins old new place (Ok more) next = ((next ≡ nexts.Call (Pass Join None)) × (seen new ≡ with_bytes (seen old) place (bytes_in (seen old) place ++ more))) ⊎ ((next ≡ nexts.Lack Join) × (new ≡ old))
Joins old new place (Err lack) next = (next ≡ nexts.Lack Join) × (new ≡ old)
