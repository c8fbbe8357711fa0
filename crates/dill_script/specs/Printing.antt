-- The canonical text of a script: one space between tokens, no comment, no blank line and no indentation.
use Rattle.std.specs.Prelude.{ℕ, ◌/◌, ◌%◌, List, [], ◌∷◌, ◌++◌, map, flat_map, slice_get, Bool, true, false, ◌==◌, ◌&&◌, nat_le, if◌then◌else◌, Option, Some, None, unwrap_or, codes, decimal}
use Rattle.std.specs.List.{join_with_byte}
use Rattle.dill_base.specs.declared.status.Address.{Address}
use Rattle.dill_base.specs.Errnos.{errno_text}
use Rattle.dill_calls.specs.Words.{word_text}
use Rattle.dill_script.specs.declared.form.Operand.{Operand}
use Rattle.dill_script.specs.declared.form.Operand.TheVariants as operands
use Rattle.dill_script.specs.declared.operand.Num.{Num}
use Rattle.dill_script.specs.declared.operand.Num.TheVariants as nums
use Rattle.dill_script.specs.declared.operand.Bytes.{Bytes}
use Rattle.dill_script.specs.declared.operand.Bytes.TheVariants as bytes
use Rattle.dill_script.specs.declared.operand.Wait.{Wait}
use Rattle.dill_script.specs.declared.operand.Wait.TheVariants as waits
use Rattle.dill_script.specs.declared.operand.Dest.{Dest}
use Rattle.dill_script.specs.declared.operand.Dest.TheVariants as dests
use Rattle.dill_script.specs.declared.script.Program.{Program}
use Rattle.dill_script.specs.declared.statement.Cond.{Cond}
use Rattle.dill_script.specs.declared.statement.Cond.TheVariants as conds
use Rattle.dill_script.specs.declared.statement.Statement.{Statement}
use Rattle.dill_script.specs.declared.statement.Statement.TheVariants as statements
use Rattle.dill_script.specs.Operands.{order_text, mode_text, role_text}
use Rattle.dill_script.specs.Statements.{relation_text}
use Rattle.dill_script.specs.Tokens.{Token, Plain, Text}

-- a number register by its letter and place
abbrev pub number_register_text : ℕ → List ℕ
number_register_text place = 110 ∷ decimal place

-- a byte register by its letter and place
abbrev pub bytes_register_text : ℕ → List ℕ
bytes_register_text place = 98 ∷ decimal place

-- NUM as it is written
abbrev pub num_text : Num → List ℕ
num_text (nums.Literal value) = decimal value
num_text (nums.Register place) = number_register_text place

-- BYTES as a token
abbrev pub bytes_token : Bytes → Token
bytes_token (bytes.Literal value) = Text value
bytes_token (bytes.Register place) = Plain (bytes_register_text place)

-- DL as it is written
abbrev pub wait_text : Wait → List ℕ
wait_text waits.Never = codes "-1"
wait_text (waits.At moment) = num_text moment
wait_text (waits.After span) = 43 ∷ num_text span

-- four numbers with dots, a colon and the port
abbrev pub address_text : Address → List ℕ
address_text address = join_with_byte 46 (map decimal address.ip) ++ 58 ∷ decimal address.port

-- the tokens of an operand
abbrev pub operand_tokens : Operand → List Token
operand_tokens (operands.Num value) = Plain (num_text value) ∷ []
operand_tokens (operands.Bytes value) = bytes_token value ∷ []
operand_tokens (operands.Wait value) = Plain (wait_text value) ∷ []
operand_tokens (operands.Address value) = Plain (address_text value) ∷ []
operand_tokens (operands.Program name) = Plain name ∷ []
operand_tokens (operands.Order value) = Plain (order_text value) ∷ []
operand_tokens (operands.Mode value) = Plain (mode_text value) ∷ []
operand_tokens (operands.Role value) = Plain (role_text value) ∷ []
operand_tokens (operands.Give place) = Plain (codes "give") ∷ Plain (number_register_text place) ∷ []
operand_tokens (operands.Send end item) = Plain (codes "send") ∷ Plain (num_text end) ∷ bytes_token item ∷ []
operand_tokens (operands.Recv end size) = Plain (codes "recv") ∷ Plain (num_text end) ∷ Plain (num_text size) ∷ []

-- the registers before a `=`
abbrev pub dest_tokens : Option Dest → List Token
dest_tokens None = []
dest_tokens (Some (dests.Number first)) = Plain (number_register_text first) ∷ Plain (codes "=") ∷ []
dest_tokens (Some (dests.Pair first second)) = Plain (number_register_text first) ∷ Plain (number_register_text second) ∷ Plain (codes "=") ∷ []
dest_tokens (Some (dests.Bytes first)) = Plain (bytes_register_text first) ∷ Plain (codes "=") ∷ []
dest_tokens (Some (dests.Two first second)) = Plain (bytes_register_text first) ∷ Plain (bytes_register_text second) ∷ Plain (codes "=") ∷ []
dest_tokens (Some (dests.Mixed first second)) = Plain (number_register_text first) ∷ Plain (bytes_register_text second) ∷ Plain (codes "=") ∷ []

-- `try`, where it is there
abbrev pub try_tokens : Bool → List Token
try_tokens true = Plain (codes "try") ∷ []
try_tokens false = []

-- the tokens of a condition
abbrev pub cond_tokens : Cond → List Token
cond_tokens (conds.Number place relation value) = Plain (number_register_text place) ∷ Plain (relation_text relation) ∷ Plain (num_text value) ∷ []
cond_tokens (conds.Same place value) = Plain (bytes_register_text place) ∷ Plain (codes "=") ∷ bytes_token value ∷ []
cond_tokens (conds.Differs place value) = Plain (bytes_register_text place) ∷ Plain (codes "!=") ∷ bytes_token value ∷ []
cond_tokens (conds.Err None) = Plain (codes "err") ∷ Plain (codes "none") ∷ []
cond_tokens (conds.Err (Some errno)) = Plain (codes "err") ∷ Plain (errno_text errno) ∷ []

-- the tokens of a statement's line
abbrev pub statement_tokens : Statement → List Token
statement_tokens (statements.Set place value) = Plain (codes "set") ∷ Plain (number_register_text place) ∷ Plain (num_text value) ∷ []
statement_tokens (statements.Add place value) = Plain (codes "add") ∷ Plain (number_register_text place) ∷ Plain (num_text value) ∷ []
statement_tokens (statements.Sub place value) = Plain (codes "sub") ∷ Plain (number_register_text place) ∷ Plain (num_text value) ∷ []
statement_tokens (statements.Len place source) = Plain (codes "len") ∷ Plain (number_register_text place) ∷ Plain (bytes_register_text source) ∷ []
statement_tokens (statements.If cond) = Plain (codes "if") ∷ cond_tokens cond
statement_tokens statements.Else = Plain (codes "else") ∷ []
statement_tokens statements.EndIf = Plain (codes "end") ∷ []
statement_tokens (statements.Loop None) = Plain (codes "loop") ∷ []
statement_tokens (statements.Loop (Some rounds)) = Plain (codes "loop") ∷ Plain (num_text rounds) ∷ []
statement_tokens statements.EndLoop = Plain (codes "end") ∷ []
statement_tokens statements.Break = Plain (codes "break") ∷ []
statement_tokens statements.Return = Plain (codes "return") ∷ []
statement_tokens (statements.Fail errno) = Plain (codes "fail") ∷ Plain (errno_text errno) ∷ []
statement_tokens statements.Finally = Plain (codes "finally") ∷ []
statement_tokens (statements.Keep tried place value) = try_tokens tried ++ Plain (codes "set") ∷ Plain (bytes_register_text place) ∷ bytes_token value ∷ []
statement_tokens (statements.Join tried place value) = try_tokens tried ++ Plain (codes "join") ∷ Plain (bytes_register_text place) ∷ bytes_token value ∷ []
statement_tokens (statements.Call tried dest form) = try_tokens tried ++ (dest_tokens dest ++ Plain (word_text form.word) ∷ flat_map operand_tokens form.operands)

-- a lower-case digit of base 16
abbrev pub hex_digit : ℕ → ℕ
hex_digit value = unwrap_or (slice_get (codes "0123456789abcdef") value) 48

-- a byte as a text writes it
abbrev pub byte_text : ℕ → List ℕ
byte_text byte = if byte == 34 then codes "\\\"" else (if byte == 92 then codes "\\\\" else (if byte == 10 then codes "\\n" else (if byte == 13 then codes "\\r" else (if byte == 9 then codes "\\t" else (if nat_le 32 byte && nat_le byte 126 then byte ∷ [] else codes "\\x" ++ hex_digit (byte / 16) ∷ hex_digit (byte % 16) ∷ [])))))

-- a token as it is written: a plain token as it stands, a text in quotes
abbrev pub token_text : Token → List ℕ
token_text (Plain letters) = letters
token_text (Text value) = 34 ∷ flat_map byte_text value ++ 34 ∷ []

-- a line with its LF
abbrev pub line_text : List Token → List ℕ
line_text line = join_with_byte 32 (map token_text line) ++ 10 ∷ []

-- a program: its first line, its statements and its `end`
abbrev pub program_lines : Program → List (List Token)
program_lines program = (Plain (codes "program") ∷ Plain program.name ∷ Plain (decimal program.params) ∷ []) ∷ map statement_tokens program.statements ++ (Plain (codes "end") ∷ []) ∷ []

-- the lines of a script
abbrev pub script_lines : List Program → List (List Token)
script_lines script = (Plain (codes "dill") ∷ Plain (codes "1") ∷ []) ∷ flat_map program_lines script

-- the canonical text
abbrev pub canonical : List Program → List ℕ
canonical script = flat_map line_text (script_lines script)
