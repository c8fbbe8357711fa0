-- The operands of calls, evaluated from the registers of a coroutine.
use Rattle.std.specs.Prelude.{ℕ, List, map, Bool, true, false}
use Rattle.dill_base.specs.declared.status.Address.{Address}
use Rattle.dill_base.specs.declared.deadline.Deadline.{Deadline}
use Rattle.dill_base.specs.declared.deadline.Deadline.TheVariants.{Never, At, After}
use Rattle.dill_script.specs.declared.form.Operand.{Operand}
use Rattle.dill_script.specs.declared.form.Operand.TheVariants as operands
use Rattle.dill_script.specs.declared.operand.Num.{Num}
use Rattle.dill_script.specs.declared.operand.Num.TheVariants as nums
use Rattle.dill_script.specs.declared.operand.Bytes.{Bytes}
use Rattle.dill_script.specs.declared.operand.Bytes.TheVariants as bytes
use Rattle.dill_script.specs.declared.operand.Wait.{Wait}
use Rattle.dill_script.specs.declared.operand.Wait.TheVariants as waits
use Rattle.dill_script.specs.declared.operand.Order.{Order}
use Rattle.dill_script.specs.declared.operand.Order.TheVariants as orders
use Rattle.dill_script.specs.declared.operand.Mode.{Mode}
use Rattle.dill_script.specs.declared.operand.Mode.TheVariants as modes
use Rattle.dill_script.specs.declared.operand.Role.{Role}
use Rattle.dill_script.specs.declared.operand.Role.TheVariants as roles
use Rattle.dill_meaning.specs.Views.{ScriptView, number_in, bytes_in, number_of_name}

-- an operand that was evaluated
pub data Value : Type 0 where
  Number : ℕ → Value
  Octets : List ℕ → Value
  Until : Deadline → Value
  Where : Address → Value
  -- whether it is the first of two words
  First : Bool → Value
  -- a program by its number
  Program : ℕ → Value
  Gift : ℕ → Value
  Sends : ℕ → List ℕ → Value
  Recvs : ℕ → ℕ → Value

-- NUM: as it is written, or from its register
abbrev pub num_value : ScriptView → Num → ℕ
num_value view (nums.Literal value) = value
num_value view (nums.Register place) = number_in view place

-- BYTES: as they are written, or from their register
abbrev pub bytes_value : ScriptView → Bytes → List ℕ
bytes_value view (bytes.Literal value) = value
bytes_value view (bytes.Register place) = bytes_in view place

-- DL: never, a moment, or so long after the entry
abbrev pub deadline_value : ScriptView → Wait → Deadline
deadline_value view waits.Never = Never
deadline_value view (waits.At moment) = At (num_value view moment)
deadline_value view (waits.After span) = After (num_value view span)

-- `big` is the first of the two
abbrev pub is_big : Order → Bool
is_big orders.Big = true
is_big orders.Little = false

-- `text` is the first of the two
abbrev pub is_text : Mode → Bool
is_text modes.Text = true
is_text modes.Binary = false

-- `client` is the first of the two
abbrev pub is_client : Role → Bool
is_client roles.Client = true
is_client roles.Server = false

-- an operand, evaluated; a program is told by its number
abbrev pub value_of : ScriptView → Operand → Value
value_of view (operands.Num value) = Number (num_value view value)
value_of view (operands.Bytes value) = Octets (bytes_value view value)
value_of view (operands.Wait value) = Until (deadline_value view value)
value_of view (operands.Address value) = Where value
value_of view (operands.Program name) = Program (number_of_name view.script name)
value_of view (operands.Order value) = First (is_big value)
value_of view (operands.Mode value) = First (is_text value)
value_of view (operands.Role value) = First (is_client value)
value_of view (operands.Give place) = Gift (number_in view place)
value_of view (operands.Send end item) = Sends (num_value view end) (bytes_value view item)
value_of view (operands.Recv end size) = Recvs (num_value view end) (num_value view size)

-- the operands of a call, evaluated
abbrev pub values_of : ScriptView → List Operand → List Value
values_of view list = map (value_of view) list
