-- The lines of programs and what they spell: the first line of a program, the `end` of a block, or a statement.
use Rattle.std.specs.Prelude.{ℕ, List, [], ◌∷◌, Bool, false, not, ◌||◌, ◌==◌, if◌then◌else◌, Option, Some, None, option_map, option_and_then, codes, bytes_eq}
use Rattle.std.specs.Option.{option_or}
use Rattle.dill_calls.specs.CallTable.{form_of}
use Rattle.dill_calls.specs.declared.word.Word.{Word}
use Rattle.dill_script.specs.declared.line.Keyword.{Keyword}
use Rattle.dill_script.specs.declared.line.Keyword.TheVariants as keywords
use Rattle.dill_script.specs.declared.line.Register.{Register}
use Rattle.dill_script.specs.declared.line.Register.TheVariants as registers
use Rattle.dill_script.specs.declared.operand.Dest.{Dest}
use Rattle.dill_script.specs.declared.statement.Cond.{Cond}
use Rattle.dill_script.specs.declared.statement.Cond.TheVariants as conds
use Rattle.dill_script.specs.declared.statement.Relation.{Relation}
use Rattle.dill_script.specs.declared.statement.Relation.TheVariants.{Equal, Unequal, Less, AtMost, Greater, AtLeast}
use Rattle.dill_script.specs.declared.statement.Statement.{Statement}
use Rattle.dill_script.specs.declared.statement.Statement.TheVariants as statements
use Rattle.dill_script.specs.Headings.{Heading}
use Rattle.dill_script.specs.Numbers.{named, number_up_to, only_if, errno_of}
use Rattle.dill_script.specs.Operands.{plain_in, name_of, register_in, number_register, bytes_register, num_of, bytes_of, operands_of, dest_of}
use Rattle.dill_script.specs.Table.{kinds_of, rest_kind}
use Rattle.dill_script.specs.Tokens.{Token, is_plain}

-- what a line spells
pub data Line : Type 0 where
  -- a program's name, and how many arguments it takes
  Opens : List ℕ → ℕ → Line
  Ends : Line
  Says : Statement → Line

-- the signs of comparing
abbrev pub relation_text : Relation → List ℕ
relation_text Equal = codes "="
relation_text Unequal = codes "!="
relation_text Less = codes "<"
relation_text AtMost = codes "<="
relation_text Greater = codes ">"
relation_text AtLeast = codes ">="

-- the sign that a token is
abbrev pub relation_of : Token → Option Relation
relation_of token = option_and_then (named relation_text (Equal ∷ Unequal ∷ Less ∷ AtMost ∷ Greater ∷ AtLeast ∷ [])) (plain_in token)

-- both, where there are both
abbrev pub both : {X Y Z : Type 0} → (X → Y → Z) → Option X → Option Y → Option Z
both f (Some x) (Some y) = Some (f x y)
both f _ _ = None

-- a condition on a number register
abbrev pub number_cond : Token → Token → Token → Option Cond
number_cond left sign right = option_and_then (λ place. both (conds.Number place) (relation_of sign) (num_of right)) (number_register left)

-- a condition on a byte register
abbrev pub bytes_cond : Token → Token → Token → Option Cond
bytes_cond left sign right = if is_plain (codes "=") sign then both conds.Same (bytes_register left) (bytes_of right) else (if is_plain (codes "!=") sign then both conds.Differs (bytes_register left) (bytes_of right) else None)

-- an errno or `none`
abbrev pub err_of : Token → Option Cond
err_of token = if is_plain (codes "none") token then Some (conds.Err None) else option_map (λ errno. conds.Err (Some errno)) (option_and_then errno_of (plain_in token))

-- COND: `nK OP NUM`, `bK = BYTES`, `bK != BYTES`, `err ERR` or `err none`
abbrev pub cond_of : List Token → Option Cond
cond_of (left ∷ sign ∷ right ∷ []) = option_or (number_cond left sign right) (bytes_cond left sign right)
cond_of (first ∷ second ∷ []) = if is_plain (codes "err") first then err_of second else None
cond_of _ = None

-- `set` of a number register, which makes no call and so has no `try`, or of a byte register
abbrev pub set_at : Bool → Register → Token → Option Statement
set_at tried (registers.Number place) value = if tried then None else option_map (statements.Set place) (num_of value)
set_at tried (registers.Bytes place) value = option_map (statements.Keep tried place) (bytes_of value)

-- the statement of a line with two operands
abbrev pub with_two : {X : Type 0} → (Token → Token → Option X) → List Token → Option X
with_two f (first ∷ second ∷ []) = f first second
with_two f _ = None

-- what a line without operands spells
abbrev pub with_none : {X : Type 0} → X → List Token → Option X
with_none x [] = Some x
with_none x (token ∷ rest) = None

-- `fail` and an errno
abbrev pub fail_of : List Token → Option Statement
fail_of (token ∷ []) = option_map statements.Fail (option_and_then errno_of (plain_in token))
fail_of _ = None

-- `loop` without end, or with its rounds
abbrev pub loop_of : List Token → Option Statement
loop_of [] = Some (statements.Loop None)
loop_of (token ∷ []) = option_map (λ rounds. statements.Loop (Some rounds)) (num_of token)
loop_of _ = None

-- a program's name and its number of parameters, which is 0 of `main`
abbrev pub params_fit : List ℕ → ℕ → Bool
params_fit name params = not (bytes_eq name (codes "main")) || (params == 0)

-- the first line of a program
abbrev pub program_of : Token → Token → Option Line
program_of name params = option_and_then (λ opened. option_and_then (λ count. only_if (params_fit opened count) (Opens opened count)) (option_and_then (number_up_to 16) (plain_in params))) (name_of name)

-- where the answer of a call goes: nowhere, or into registers that fit its form
abbrev pub dest_at : Word → List Register → Option (Option Dest)
dest_at word [] = Some None
dest_at word (register ∷ targets) = option_map (λ dest. Some dest) (dest_of (form_of word) (register ∷ targets))

-- the call of a line
abbrev pub call_of_line : Bool → Word → List Register → List Token → Option Statement
call_of_line tried word targets tokens = both (λ dest operands. statements.Call tried dest (record { word = word; operands = operands })) (dest_at word targets) (operands_of (kinds_of word) (rest_kind word) tokens)

-- the lines that may have neither `try` nor registers before a `=`
abbrev pub plain_line : Keyword → List Token → Option Line
plain_line keywords.Program tokens = with_two program_of tokens
plain_line keywords.Finally tokens = with_none (Says statements.Finally) tokens
plain_line keywords.Else tokens = with_none (Says statements.Else) tokens
plain_line keywords.End tokens = with_none Ends tokens
plain_line keywords.Add tokens = option_map Says (with_two (λ place value. both statements.Add (number_register place) (num_of value)) tokens)
plain_line keywords.Sub tokens = option_map Says (with_two (λ place value. both statements.Sub (number_register place) (num_of value)) tokens)
plain_line keywords.Len tokens = option_map Says (with_two (λ place source. both statements.Len (number_register place) (bytes_register source)) tokens)
plain_line keywords.If tokens = option_map (λ cond. Says (statements.If cond)) (cond_of tokens)
plain_line keywords.Loop tokens = option_map Says (loop_of tokens)
plain_line keywords.Break tokens = with_none (Says statements.Break) tokens
plain_line keywords.Return tokens = with_none (Says statements.Return) tokens
plain_line keywords.Fail tokens = option_map Says (fail_of tokens)
plain_line _ tokens = None

-- a line by its keyword: calls may have both `try` and registers, `set` of bytes and `join` may have `try`, and no other line has either
abbrev pub keyword_line : Bool → List Register → Keyword → List Token → Option Line
keyword_line tried targets (keywords.Call word) tokens = option_map Says (call_of_line tried word targets tokens)
keyword_line tried [] keywords.Set tokens = option_map Says (with_two (λ target value. option_and_then (λ register. set_at tried register value) (register_in target)) tokens)
keyword_line tried [] keywords.Join tokens = option_map Says (with_two (λ place value. both (statements.Join tried) (bytes_register place) (bytes_of value)) tokens)
keyword_line false [] keyword tokens = plain_line keyword tokens
keyword_line _ _ _ _ = None

-- what a line spells; none where its keyword is unknown or its operands don't fit
abbrev pub line_of : Heading → Option Line
line_of heading = option_and_then (λ keyword. keyword_line heading.tried heading.targets keyword heading.operands) heading.keyword
