-- The pieces that a line of the canonical text is put together from.
use Rattle.std.specs.Prelude.{ℕ, List, [], ◌∷◌, ◌++◌, map, flat_map, Option, Some, None, codes}
use Rattle.std.specs.List.{join_with_byte}
use Rattle.dill_base.specs.declared.errno.Errno.{Errno}
use Rattle.dill_base.specs.Errnos.{errno_text}
use Rattle.dill_script.specs.declared.form.Operand.{Operand}
use Rattle.dill_script.specs.declared.operand.Dest.{Dest}
use Rattle.dill_script.specs.declared.operand.Dest.TheVariants.{Number, Pair, Bytes, Two, Mixed}
use Rattle.dill_script.specs.declared.script.Program.{Program}
use Rattle.dill_script.specs.declared.statement.Statement.{Statement}
use Rattle.dill_script.specs.Printing.{number_register_text, bytes_register_text, token_text, line_text, operand_tokens, statement_tokens, program_lines}
use Rattle.dill_script.specs.Tokens.{Token}

-- tokens, each with a space behind it
abbrev pub led : List Token → List ℕ
led tokens = flat_map (λ token. token_text token ++ 32 ∷ []) tokens

-- tokens, each with a space before it
abbrev pub trailed : List Token → List ℕ
trailed tokens = flat_map (λ token. 32 ∷ token_text token) tokens

-- the tokens of a line with a space between each two, without its LF
abbrev pub joined : List Token → List ℕ
joined tokens = join_with_byte 32 (map token_text tokens)

-- the words of an operand, a space before each
abbrev pub operand_text : Operand → List ℕ
operand_text operand = 32 ∷ joined (operand_tokens operand)

-- the line of a statement
abbrev pub statement_text : Statement → List ℕ
statement_text statement = line_text (statement_tokens statement)

-- the lines of a program
abbrev pub program_text : Program → List ℕ
program_text program = flat_map line_text (program_lines program)

-- an errno's name, or `none`
abbrev pub fault_text : Option Errno → List ℕ
fault_text None = codes "none"
fault_text (Some errno) = errno_text errno

-- the registers that an answer is put in
abbrev pub registers_text : Dest → List ℕ
registers_text (Number first) = number_register_text first
registers_text (Pair first second) = number_register_text first ++ 32 ∷ number_register_text second
registers_text (Bytes first) = bytes_register_text first
registers_text (Two first second) = bytes_register_text first ++ 32 ∷ bytes_register_text second
registers_text (Mixed first second) = number_register_text first ++ 32 ∷ bytes_register_text second
