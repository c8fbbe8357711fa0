-- How a coroutine runs on: over the statements that are ahead, to the next that makes a call or to the end.
use Rattle.std.specs.Prelude.{ℕ, zero, suc, ◌+◌, ◌-◌, List, [], ◌∷◌, length, Bool, true, false, nat_lt, if◌then◌else◌, Option, Some, None}
use Rattle.dill_base.specs.declared.errno.Errno.{Errno}
use Rattle.dill_base.specs.declared.errno.Errno.TheVariants.{Emsgsize}
use Rattle.dill_calls.specs.declared.answer.Answer.{Answer}
use Rattle.dill_calls.specs.declared.call.Call.{Call}
use Rattle.dill_calls.specs.declared.call.Call.TheVariants.{Pass, Yield}
use Rattle.dill_calls.specs.declared.word.Word.TheVariants.{Set, Join}
use Rattle.dill_script.specs.declared.statement.Statement.{Statement}
use Rattle.dill_script.specs.declared.statement.Statement.TheVariants as statements
use Rattle.dill_meaning.specs.Calls.{call_of}
use Rattle.dill_meaning.specs.Effects.{sum_of, holds, leaving, entering, exiting, has_round, again, put, fault_in}
use Rattle.dill_meaning.specs.Values.{num_value, bytes_value, values_of}
use Rattle.dill_meaning.specs.Views.{ScriptView, number_in, bytes_in, with_number, ahead, pending}

-- how statements are passed: they are run, or the first that is not passed over is looked for; the number says how many blocks of that sort began on the way
pub data Mode : Type 0 where
  Runs : Mode
  -- behind the `else` of an `if`, or behind its `end`
  ToElse : ℕ → Mode
  -- behind the `end` of an `if`
  ToEndIf : ℕ → Mode
  -- behind the `end` of a loop
  ToEndLoop : ℕ → Mode
  ToFinally : Mode

-- a statement that isn't run
abbrev pub passed_over : Mode → Statement → Mode
passed_over (ToElse depth) (statements.If cond) = ToElse (suc depth)
passed_over (ToElse zero) statements.Else = Runs
passed_over (ToElse zero) statements.EndIf = Runs
passed_over (ToElse (suc depth)) statements.EndIf = ToElse depth
passed_over (ToEndIf depth) (statements.If cond) = ToEndIf (suc depth)
passed_over (ToEndIf zero) statements.EndIf = Runs
passed_over (ToEndIf (suc depth)) statements.EndIf = ToEndIf depth
passed_over (ToEndLoop depth) (statements.Loop rounds) = ToEndLoop (suc depth)
passed_over (ToEndLoop zero) statements.EndLoop = Runs
passed_over (ToEndLoop (suc depth)) statements.EndLoop = ToEndLoop depth
passed_over ToFinally statements.Finally = Runs
passed_over mode _ = mode

-- a loop of no rounds is passed over, and another is entered for its first
abbrev pub begin_loop : ScriptView → ℕ → Mode × ScriptView
begin_loop view zero = (ToEndLoop 0, view)
begin_loop view (suc left) = (Runs, entering view (Some left))

-- a statement that is run and makes no call
abbrev pub run : ScriptView → Statement → Mode × ScriptView
run view (statements.Set place value) = (Runs, with_number view place (num_value view value))
run view (statements.Add place value) = (Runs, with_number view place (sum_of (number_in view place) (num_value view value)))
run view (statements.Sub place value) = (Runs, with_number view place (number_in view place - num_value view value))
run view (statements.Len place source) = (Runs, with_number view place (length (bytes_in view source)))
run view (statements.If cond) = (if holds view cond then Runs else ToElse 0, view)
run view statements.Else = (ToEndIf 0, view)
run view (statements.Loop None) = (Runs, entering view None)
run view (statements.Loop (Some rounds)) = begin_loop view (num_value view rounds)
run view statements.EndLoop = (Runs, exiting view)
run view statements.Break = (ToEndLoop 0, exiting view)
run view statements.Return = (ToFinally, leaving view None)
run view (statements.Fail errno) = (ToFinally, leaving view (Some errno))
run view _ = (Runs, view)

-- the bytes of a `join` don't fit
abbrev pub join_fault : ScriptView → ℕ → List ℕ → Option Errno
join_fault view place more = if nat_lt 1048576 (length (bytes_in view place) + length more) then Some Emsgsize else None

-- the call that a statement makes when it is run, if it makes one
abbrev pub call_at : ScriptView → Statement → Option Call
call_at view (statements.Keep tried place value) = Some (Pass Set None)
call_at view (statements.Join tried place value) = Some (Pass Join (join_fault view place (bytes_value view value)))
call_at view (statements.Call tried dest form) = call_of form.word (values_of view form.operands)
call_at view statements.EndLoop = if has_round view.rounds then Some Yield else None
call_at view _ = None

-- the view with one more statement behind it
abbrev pub passing : ScriptView → ScriptView
passing view = record view { passed = suc view.passed }

-- the call of a statement in this mode
abbrev pub call_in : Mode → ScriptView → Statement → Option Call
call_in Runs view statement = call_at view statement
call_in mode view statement = None

-- the mode and the view behind a statement that makes no call
abbrev pub behind : Mode → ScriptView → Statement → Mode × ScriptView
behind Runs view statement = run view statement
behind mode view statement = (passed_over mode statement, view)

-- where a walk stops
pub record Stop : Type 0 where
  pub view : ScriptView
  -- the statement that makes a call and that call; none at the end
  pub made : Option (Statement × Call)

-- the stop at a statement that makes a call, or the stop further on
abbrev pub stopped : ScriptView → Statement → Option Call → Stop → Stop
stopped view statement (Some call) further = record { view = view; made = Some (statement, call) }
stopped view statement None further = further

-- from these statements on to the first that makes a call; each is passed once
abbrev pub walk : Mode → ScriptView → List Statement → Stop
walk mode view [] = record { view = view; made = None }
walk mode view (statement ∷ rest) =
    let gone = behind mode (passing view) statement in
    let further = walk gone.0 gone.1 rest in
    stopped (passing view) statement (call_in mode (passing view) statement) further

-- with `try` the fault, or none, becomes `err`; without it a fault leads to `finally`
abbrev pub settled : Bool → ScriptView → Option Errno → Mode × ScriptView
settled true view fault = (Runs, record view { err = fault })
settled false view None = (Runs, view)
settled false view (Some errno) = (ToFinally, leaving view (Some errno))

-- the `end` of a loop leads to its next round, a fault to `finally`
abbrev pub looped : ScriptView → Option Errno → Mode × ScriptView
looped view None = (Runs, again view view.rounds)
looped view (Some errno) = (ToFinally, leaving view (Some errno))

-- how a coroutine goes on from the statement whose call was answered
abbrev pub given : ScriptView → Answer → Option Statement → Mode × ScriptView
given view answer (Some (statements.Call tried dest form)) = settled tried (put view dest answer) (fault_in answer)
given view answer (Some (statements.Keep tried place value)) = settled tried view (fault_in answer)
given view answer (Some (statements.Join tried place value)) = settled tried view (fault_in answer)
given view answer (Some statements.EndLoop) = looped view (fault_in answer)
given view answer _ = (Runs, view)

-- where a coroutine stops next, once it has its answer
abbrev pub stop_of : ScriptView → Answer → Stop
stop_of view answer = let gone = given view answer (pending view) in walk gone.0 gone.1 (ahead gone.1)
