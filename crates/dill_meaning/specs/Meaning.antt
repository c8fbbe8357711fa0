-- The meaning of scripts' programs: each turn's call, what is left, and who may be started.
use Rattle.std.specs.Prelude.{ℕ, suc, List, ◌++◌, Bool, true, false, ◌||◌, ◌==◌, Option, Some, None, slice_get}
use Rattle.std.specs.List.{list_any, list_all}
use Rattle.dill_base.specs.declared.errno.Errno.{Errno}
use Rattle.dill_calls.specs.declared.answer.Answer.{Answer}
use Rattle.dill_calls.specs.declared.call.Call.{Call}
use Rattle.dill_calls.specs.declared.word.Word.{Word}
use Rattle.dill_calls.specs.declared.word.Word.TheVariants as words
use Rattle.dill_calls.specs.Program.{Program, Move, Calls, Ends}
use Rattle.dill_script.specs.declared.form.Kind.{Kind}
use Rattle.dill_script.specs.declared.form.Kind.TheVariants as kinds
use Rattle.dill_script.specs.declared.form.Rest.{Rest}
use Rattle.dill_script.specs.declared.form.Rest.TheVariants as rests
use Rattle.dill_script.specs.declared.statement.Statement.{Statement}
use Rattle.dill_script.specs.declared.statement.Statement.TheVariants as statements
use Rattle.dill_script.specs.Contexts.{places}
use Rattle.dill_script.specs.Refusals.{is_some_with}
use Rattle.dill_script.specs.Spelling.{is_sized}
use Rattle.dill_script.specs.Table.{kinds_of, rest_kind}
use Rattle.dill_meaning.specs.Values.{bytes_value}
use Rattle.dill_meaning.specs.Views.{ScriptView, statements_of, ahead, pending, bytes_in, with_bytes, beginning}
use Rattle.dill_meaning.specs.Walks.{stop_of, join_fault}

-- `join` appends where that is no fault, and else changes nothing
abbrev pub appended : ScriptView → ℕ → List ℕ → Option Errno → ScriptView
appended view place more None = with_bytes view place (bytes_in view place ++ more)
appended view place more (Some errno) = view

-- `set` and `join` change their register when their call is made
abbrev pub kept : ScriptView → Statement → ScriptView
kept view (statements.Keep tried place value) = with_bytes view place (bytes_value view value)
kept view (statements.Join tried place value) = appended view place (bytes_value view value) (join_fault view place (bytes_value view value))
kept view _ = view

-- the move of a coroutine that stops
abbrev pub moved : ScriptView → Option (Statement × Call) → ScriptView × Move
moved view (Some (statement, call)) = (kept view statement, Calls call)
moved view None = (view, Ends view.outcome)

-- the view after an answer, and the call or the end
abbrev pub next : ScriptView → Answer → ScriptView × Move
next view answer = moved (stop_of view answer).view (stop_of view answer).made

-- the view where memory for that call was refused: the registers are as they were before it
abbrev pub short : ScriptView → Answer → ScriptView
short view answer = (stop_of view answer).view

-- the word of the call that was made last
abbrev pub word_at : Option Statement → Word
word_at (Some (statements.Call tried dest form)) = form.word
word_at (Some (statements.Keep tried place value)) = words.Set
word_at (Some (statements.Join tried place value)) = words.Join
word_at (Some statements.EndLoop) = words.Yield
word_at _ = words.Start

-- the word of the call that a view made last
abbrev pub said : ScriptView → Word
said view = word_at (pending view)

-- one more than the places that are ahead
abbrev pub left : ScriptView → ℕ
left view = suc (places (ahead view))

-- one more than all places
abbrev pub most : ScriptView → ℕ
most view = suc (places (statements_of view))

-- a program of this script with so many parameters
abbrev pub knows : ScriptView → ℕ → ℕ → Bool
knows view program args = is_some_with (λ found. found.params == args) (slice_get view.script program)

-- a new coroutine of the same script
abbrev pub child : ScriptView → ℕ → List ℕ → ScriptView
child view program args = beginning view.script program args

-- no program of its script has more than 4,096 places
abbrev pub is_real : ScriptView → Bool
is_real view = list_all is_sized view.script

-- the programs of scripts
abbrev pub scripts : Program ScriptView
scripts = record { real = is_real; next = next; short = short; said = said; left = left; most = most; knows = knows; child = child }

-- an operand that is bytes
abbrev pub is_bytes_kind : Kind → Bool
is_bytes_kind kinds.Bytes = true
is_bytes_kind _ = false

-- something may stand behind the operands that a call always has
abbrev pub is_open : Rest → Bool
is_open rests.Nothing = false
is_open _ = true

-- the calls for whose building memory is taken: those with operands that are bytes, with items, arguments or clauses, and `set` and `join`
abbrev pub may_lack : Word → Bool
may_lack words.Set = true
may_lack words.Join = true
may_lack word = list_any is_bytes_kind (kinds_of word) || is_open (rest_kind word)
