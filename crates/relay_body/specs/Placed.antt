-- The operands of a call's form, each evaluated in the place where its word asks for it.
use Rattle.std.specs.Prelude.{ℕ, suc, List, [], ◌∷◌, ◌++◌, length, drop, slice_get, filter_map, Bool, false, Option, Some}
use Rattle.dill_base.specs.declared.deadline.Deadline.{Deadline}
use Rattle.dill_base.specs.declared.deadline.Deadline.TheVariants.{Never}
use Rattle.dill_base.specs.declared.status.Address.{Address}
use Rattle.dill_calls.specs.declared.lists.Arg.{Arg}
use Rattle.dill_calls.specs.declared.lists.Clause.{Clause}
use Rattle.dill_calls.specs.declared.word.Word.{Word}
use Rattle.dill_script.specs.declared.form.Kind.{Kind}
use Rattle.dill_script.specs.declared.form.Kind.TheVariants as kinds
use Rattle.dill_script.specs.declared.form.Operand.{Operand}
use Rattle.dill_script.specs.declared.form.Operand.TheVariants as operands
use Rattle.dill_script.specs.declared.form.Rest.{Rest}
use Rattle.dill_script.specs.declared.form.Rest.TheVariants as rests
use Rattle.dill_script.specs.Table.{kinds_of, rest_kind}
use Rattle.dill_meaning.specs.Calls.{arg_of, clause_of}
use Rattle.dill_meaning.specs.Values.{Value, Number, Octets, Until, Where, First, Program, num_value, bytes_value, deadline_value, is_big, is_text, is_client, values_of}
use Rattle.dill_meaning.specs.Views.{ScriptView, number_of_name}

-- a number, or 0 where the operand is of another kind
abbrev pub num_of : ScriptView → Option Operand → ℕ
num_of view (Some (operands.Num value)) = num_value view value
num_of view _ = 0

-- bytes, or none where the operand is of another kind
abbrev pub bytes_of : ScriptView → Option Operand → List ℕ
bytes_of view (Some (operands.Bytes value)) = bytes_value view value
bytes_of view _ = []

-- until when a call may wait, or never where the operand is of another kind
abbrev pub wait_of : ScriptView → Option Operand → Deadline
wait_of view (Some (operands.Wait value)) = deadline_value view value
wait_of view _ = Never

-- an address, or one of zeros where the operand is of another kind
abbrev pub address_of : Option Operand → Address
address_of (Some (operands.Address value)) = value
address_of _ = record { ip = 0 ∷ 0 ∷ 0 ∷ 0 ∷ []; port = 0 }

-- the number of a program, or 0 where the operand is of another kind
abbrev pub program_of : ScriptView → Option Operand → ℕ
program_of view (Some (operands.Program name)) = number_of_name view.script name
program_of view _ = 0

-- the operand is the first of two words
abbrev pub is_first : Option Operand → Bool
is_first (Some (operands.Order value)) = is_big value
is_first (Some (operands.Mode value)) = is_text value
is_first (Some (operands.Role value)) = is_client value
is_first _ = false

-- the arguments from one operand on
abbrev pub args_from : ScriptView → ℕ → List Operand → List Arg
args_from view from list = filter_map arg_of (values_of view (drop from list))

-- the clauses from one operand on
abbrev pub clauses_from : ScriptView → ℕ → List Operand → List Clause
clauses_from view from list = filter_map clause_of (values_of view (drop from list))

-- an operand as the kind that is asked for
abbrev pub value_at : ScriptView → Kind → Option Operand → Value
value_at view kinds.Num found = Number (num_of view found)
value_at view kinds.Bytes found = Octets (bytes_of view found)
value_at view kinds.Wait found = Until (wait_of view found)
value_at view kinds.Address found = Where (address_of found)
value_at view kinds.Program found = Program (program_of view found)
value_at view kinds.Order found = First (is_first found)
value_at view kinds.Mode found = First (is_first found)
value_at view kinds.Role found = First (is_first found)

-- the operands from one place on, as these kinds
abbrev pub values_at : ScriptView → List Kind → ℕ → List Operand → List Value
values_at view [] place list = []
values_at view (kind ∷ more) place list = value_at view kind (slice_get list place) ∷ values_at view more (suc place) list

-- items, arguments or clauses, where any may stand
abbrev pub rest_of : ScriptView → Rest → List Operand → List Value
rest_of view rests.Nothing list = []
rest_of view _ list = values_of view list

-- the operands that a word has in their places, and what may stand behind them
abbrev pub placed : ScriptView → Word → List Operand → List Value
placed view word list = values_at view (kinds_of word) 0 list ++ rest_of view (rest_kind word) (drop (length (kinds_of word)) list)
