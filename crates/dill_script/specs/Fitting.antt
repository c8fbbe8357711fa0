-- Operands that fit the word of their call, and registers that fit its answer.
use Rattle.std.specs.Prelude.{ℕ, List, [], ◌∷◌, length, Bool, true, false, ◌&&◌, nat_le, Option, Some, None}
use Rattle.std.specs.List.{list_all}
use Rattle.dill_calls.specs.CallTable.{Form as AnswerForm, OneNumber, TwoNumbers, OneBytes, TwoBytes, CodeAndBytes, Choice, form_of}
use Rattle.dill_calls.specs.declared.word.Word.{Word}
use Rattle.dill_calls.specs.declared.word.Word.TheVariants as words
use Rattle.dill_script.specs.declared.form.Form.{Form}
use Rattle.dill_script.specs.declared.form.Kind.{Kind}
use Rattle.dill_script.specs.declared.form.Kind.TheVariants as kinds
use Rattle.dill_script.specs.declared.form.Operand.{Operand}
use Rattle.dill_script.specs.declared.form.Operand.TheVariants as operands
use Rattle.dill_script.specs.declared.form.Rest.{Rest}
use Rattle.dill_script.specs.declared.form.Rest.TheVariants as rests
use Rattle.dill_script.specs.declared.operand.Dest.{Dest}
use Rattle.dill_script.specs.declared.operand.Dest.TheVariants as dests
use Rattle.dill_script.specs.declared.operand.Num.TheVariants as nums
use Rattle.dill_script.specs.declared.script.Program.{Program}
use Rattle.dill_script.specs.declared.statement.Statement.{Statement}
use Rattle.dill_script.specs.declared.statement.Statement.TheVariants as statements
use Rattle.dill_script.specs.Table.{kinds_of, rest_kind}

-- the word of a call; `start`, `set` and `join` name none
abbrev pub is_call_word : Word → Bool
is_call_word words.Start = false
is_call_word words.Set = false
is_call_word words.Join = false
is_call_word _ = true

-- an operand of this kind
abbrev pub is_kind : Kind → Operand → Bool
is_kind kinds.Num (operands.Num value) = true
is_kind kinds.Bytes (operands.Bytes value) = true
is_kind kinds.Wait (operands.Wait value) = true
is_kind kinds.Address (operands.Address value) = true
is_kind kinds.Program (operands.Program name) = true
is_kind kinds.Order (operands.Order value) = true
is_kind kinds.Mode (operands.Mode value) = true
is_kind kinds.Role (operands.Role value) = true
is_kind _ _ = false

-- an item, an argument or a clause
abbrev pub is_rest : Rest → Operand → Bool
is_rest rests.Items (operands.Bytes value) = true
is_rest rests.Items (operands.Num (nums.Register place)) = true
is_rest rests.Args (operands.Num value) = true
is_rest rests.Args (operands.Give place) = true
is_rest rests.Clauses (operands.Send end item) = true
is_rest rests.Clauses (operands.Recv end size) = true
is_rest _ _ = false

-- 1 to 16 items, or any number of arguments or clauses
abbrev pub is_many : Rest → List Operand → Bool
is_many rests.Items list = nat_le 1 (length list) && nat_le (length list) 16
is_many _ list = true

-- operands of these kinds, each in its place, and what may stand behind them
abbrev pub are_kinds : List Kind → Rest → List Operand → Bool
are_kinds [] rest list = list_all (is_rest rest) list && is_many rest list
are_kinds (kind ∷ more) rest [] = false
are_kinds (kind ∷ more) rest (operand ∷ list) = is_kind kind operand && are_kinds more rest list

-- a call with operands as its word asks for them
abbrev pub is_form : Form → Bool
is_form form = is_call_word form.word && are_kinds (kinds_of form.word) (rest_kind form.word) form.operands

-- there are 16 registers of each sort
abbrev pub is_register : ℕ → Bool
is_register place = nat_le place 15

-- registers that an answer of this form goes into
abbrev pub is_dest : AnswerForm → Dest → Bool
is_dest OneNumber (dests.Number place) = is_register place
is_dest TwoNumbers (dests.Pair first second) = is_register first && is_register second
is_dest OneBytes (dests.Bytes place) = is_register place
is_dest TwoBytes (dests.Two first second) = is_register first && is_register second
is_dest CodeAndBytes (dests.Mixed first second) = is_register first && is_register second
is_dest Choice (dests.Mixed first second) = is_register first && is_register second
is_dest _ _ = false

-- registers that the answer of a call goes into, if there are any
abbrev pub may_hold : Word → Option Dest → Bool
may_hold word None = true
may_hold word (Some dest) = is_dest (form_of word) dest

-- a statement whose call, if it has one, is written as its word asks
abbrev pub is_formed : Statement → Bool
is_formed (statements.Call tried dest form) = is_form form && may_hold form.word dest
is_formed _ = true

-- each statement of each program passes this test
abbrev pub all_say : (Statement → Bool) → List Program → Bool
all_say test script = list_all (λ program. list_all test program.statements) script
