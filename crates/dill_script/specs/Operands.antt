-- The operands of statements, as tokens spell them.
use Rattle.std.specs.Prelude.{ℕ, List, [], ◌∷◌, length, ◌&&◌, ◌==◌, nat_le, if◌then◌else◌, Option, Some, None, option_map, option_and_then, codes, bytes_eq}
use Rattle.std.specs.Option.{option_or}
use Rattle.dill_calls.specs.CallTable.{Form, OneNumber, TwoNumbers, OneBytes, TwoBytes, CodeAndBytes, Choice}
use Rattle.dill_script.specs.declared.form.Kind.{Kind}
use Rattle.dill_script.specs.declared.form.Kind.TheVariants as kinds
use Rattle.dill_script.specs.declared.form.Rest.{Rest}
use Rattle.dill_script.specs.declared.form.Rest.TheVariants as rests
use Rattle.dill_script.specs.declared.form.Operand.{Operand}
use Rattle.dill_script.specs.declared.form.Operand.TheVariants as operands
use Rattle.dill_script.specs.declared.line.Register.{Register}
use Rattle.dill_script.specs.declared.line.Register.TheVariants as registers
use Rattle.dill_script.specs.declared.operand.Num.{Num}
use Rattle.dill_script.specs.declared.operand.Num.TheVariants as nums
use Rattle.dill_script.specs.declared.operand.Bytes.{Bytes}
use Rattle.dill_script.specs.declared.operand.Bytes.TheVariants as bytes
use Rattle.dill_script.specs.declared.operand.Wait.{Wait}
use Rattle.dill_script.specs.declared.operand.Wait.TheVariants as waits
use Rattle.dill_script.specs.declared.operand.Dest.{Dest}
use Rattle.dill_script.specs.declared.operand.Dest.TheVariants as dests
use Rattle.dill_script.specs.declared.operand.Order.{Order}
use Rattle.dill_script.specs.declared.operand.Order.TheVariants as orders
use Rattle.dill_script.specs.declared.operand.Mode.{Mode}
use Rattle.dill_script.specs.declared.operand.Mode.TheVariants as modes
use Rattle.dill_script.specs.declared.operand.Role.{Role}
use Rattle.dill_script.specs.declared.operand.Role.TheVariants as roles
use Rattle.dill_script.specs.Numbers.{named, only_if, number_of, register_of, is_name, address_of, each, joined}
use Rattle.dill_script.specs.Tokens.{Token, Plain, Text, is_plain}

-- the token as a plain token, where it is no text
abbrev pub plain_in : Token → Option (List ℕ)
plain_in (Plain word) = Some word
plain_in (Text literal) = None

-- the register that a token is
abbrev pub register_in : Token → Option Register
register_in token = option_and_then register_of (plain_in token)

-- the place of a number register
abbrev pub number_place : Register → Option ℕ
number_place (registers.Number place) = Some place
number_place (registers.Bytes place) = None

-- the place of a byte register
abbrev pub bytes_place : Register → Option ℕ
bytes_place (registers.Number place) = None
bytes_place (registers.Bytes place) = Some place

-- a token that is a number register
abbrev pub number_register : Token → Option ℕ
number_register token = option_and_then number_place (register_in token)

-- a token that is a byte register
abbrev pub bytes_register : Token → Option ℕ
bytes_register token = option_and_then bytes_place (register_in token)

-- NUM: a number or a number register
abbrev pub num_of_plain : List ℕ → Option Num
num_of_plain word = option_or (option_map nums.Literal (number_of word)) (option_map nums.Register (option_and_then number_place (register_of word)))

-- a token that is NUM
abbrev pub num_of : Token → Option Num
num_of token = option_and_then num_of_plain (plain_in token)

-- BYTES: a text or a byte register
abbrev pub bytes_of : Token → Option Bytes
bytes_of (Text literal) = Some (bytes.Literal literal)
bytes_of (Plain word) = option_map bytes.Register (option_and_then bytes_place (register_of word))

-- DL: `-1`, NUM, or `+` directly followed by NUM
abbrev pub wait_of_plain : List ℕ → Option Wait
wait_of_plain [] = None
wait_of_plain (first ∷ rest) = if bytes_eq (first ∷ rest) (codes "-1") then Some waits.Never else (if first == 43 then option_map waits.After (num_of_plain rest) else option_map waits.At (num_of_plain (first ∷ rest)))

-- a token that is DL
abbrev pub wait_of : Token → Option Wait
wait_of token = option_and_then wait_of_plain (plain_in token)

-- `big` or `little`
abbrev pub order_text : Order → List ℕ
order_text orders.Big = codes "big"
order_text orders.Little = codes "little"

-- `text` or `binary`
abbrev pub mode_text : Mode → List ℕ
mode_text modes.Text = codes "text"
mode_text modes.Binary = codes "binary"

-- `client` or `server`
abbrev pub role_text : Role → List ℕ
role_text roles.Client = codes "client"
role_text roles.Server = codes "server"

-- a name, where the token is one
abbrev pub name_of : Token → Option (List ℕ)
name_of token = option_and_then (λ word. only_if (is_name word) word) (plain_in token)

-- an operand of this kind
abbrev pub operand_of : Kind → Token → Option Operand
operand_of kinds.Num token = option_map operands.Num (num_of token)
operand_of kinds.Bytes token = option_map operands.Bytes (bytes_of token)
operand_of kinds.Wait token = option_map operands.Wait (wait_of token)
operand_of kinds.Address token = option_map operands.Address (option_and_then address_of (plain_in token))
operand_of kinds.Program token = option_map operands.Program (name_of token)
operand_of kinds.Order token = option_map operands.Order (option_and_then (named order_text (orders.Big ∷ orders.Little ∷ [])) (plain_in token))
operand_of kinds.Mode token = option_map operands.Mode (option_and_then (named mode_text (modes.Text ∷ modes.Binary ∷ [])) (plain_in token))
operand_of kinds.Role token = option_map operands.Role (option_and_then (named role_text (roles.Client ∷ roles.Server ∷ [])) (plain_in token))

-- ITEM: BYTES or a number register
abbrev pub item_of : Token → Option Operand
item_of token = option_or (option_map operands.Bytes (bytes_of token)) (option_map (λ place. operands.Num (nums.Register place)) (number_register token))

-- 1 to 16 items
abbrev pub items_of : List Token → Option (List Operand)
items_of tokens = if nat_le 1 (length tokens) && nat_le (length tokens) 16 then each item_of tokens else None

-- `send`: an end and an item
abbrev pub send_of : Token → Token → Option Operand
send_of end item = option_and_then (λ place. option_map (operands.Send place) (bytes_of item)) (num_of end)

-- `recv`: an end and a size
abbrev pub recv_of : Token → Token → Option Operand
recv_of end size = option_and_then (λ place. option_map (operands.Recv place) (num_of size)) (num_of end)

-- arguments: NUM, or `give` and a number register
abbrev pub args_of : List Token → Option (List Operand)
args_of [] = Some []
args_of (token ∷ []) = joined (option_map operands.Num (num_of token)) (Some [])
args_of (token ∷ next ∷ rest) = if is_plain (codes "give") token then joined (option_map operands.Give (number_register next)) (args_of rest) else joined (option_map operands.Num (num_of token)) (args_of (next ∷ rest))

-- clauses: `send`, an end and BYTES, or `recv`, an end and NUM
abbrev pub clauses_of : List Token → Option (List Operand)
clauses_of [] = Some []
clauses_of (token ∷ end ∷ what ∷ rest) = joined (if is_plain (codes "send") token then send_of end what else (if is_plain (codes "recv") token then recv_of end what else None)) (clauses_of rest)
clauses_of _ = None

-- what stands behind the operands that a call always has
abbrev pub rest_of : Rest → List Token → Option (List Operand)
rest_of rests.Nothing [] = Some []
rest_of rests.Nothing (token ∷ tokens) = None
rest_of rests.Items tokens = items_of tokens
rest_of rests.Args tokens = args_of tokens
rest_of rests.Clauses tokens = clauses_of tokens

-- operands of these kinds, and what stands behind them
abbrev pub operands_of : List Kind → Rest → List Token → Option (List Operand)
operands_of [] rest tokens = rest_of rest tokens
operands_of (kind ∷ kinds) rest [] = None
operands_of (kind ∷ kinds) rest (token ∷ tokens) = joined (operand_of kind token) (operands_of kinds rest tokens)

-- registers that an answer of this form can be put in
abbrev pub dest_of : Form → List Register → Option Dest
dest_of OneNumber (registers.Number first ∷ []) = Some (dests.Number first)
dest_of TwoNumbers (registers.Number first ∷ registers.Number second ∷ []) = Some (dests.Pair first second)
dest_of OneBytes (registers.Bytes first ∷ []) = Some (dests.Bytes first)
dest_of TwoBytes (registers.Bytes first ∷ registers.Bytes second ∷ []) = Some (dests.Two first second)
dest_of CodeAndBytes (registers.Number first ∷ registers.Bytes second ∷ []) = Some (dests.Mixed first second)
dest_of Choice (registers.Number first ∷ registers.Bytes second ∷ []) = Some (dests.Mixed first second)
dest_of _ _ = None
