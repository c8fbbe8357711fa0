-- What may be wrong with a line, told in one order.
use Rattle.std.specs.Prelude.{ℕ, ◌+◌, List, [], ◌∷◌, length, Bool, false, not, ◌&&◌, ◌||◌, nat_lt, if◌then◌else◌, Option, Some, None, is_none, option_and_then, codes, bytes_eq}
use Rattle.std.specs.List.{list_any, list_all}
use Rattle.dill_calls.specs.declared.word.Word.{Word}
use Rattle.dill_script.specs.declared.line.Keyword.{Keyword}
use Rattle.dill_script.specs.declared.line.Keyword.TheVariants as keywords
use Rattle.dill_script.specs.declared.refusal.Reason.{Reason}
use Rattle.dill_script.specs.declared.refusal.Reason.TheVariants.{NoVersion, BadByte, BadText, UnknownWord, NotBuilt, BadBlock, BadOperand, RepeatedName, TooLarge}
use Rattle.dill_script.specs.declared.script.Program.{Program}
use Rattle.dill_script.specs.Blocks.{is_empty, may_stand, loops}
use Rattle.dill_script.specs.Contexts.{Context, said, after, places}
use Rattle.dill_script.specs.Lines.{is_line_byte, has_tokens}
use Rattle.dill_script.specs.Statements.{Line, Opens, line_of}
use Rattle.dill_script.specs.Tokens.{Token, tokens, is_plain}

-- the tokens `dill` and `1`
abbrev pub is_version : Option (List Token) → Bool
is_version (Some (first ∷ second ∷ [])) = is_plain (codes "dill") first && is_plain (codes "1") second
is_version _ = false

-- the line is the first with tokens, and they aren't `dill 1`
abbrev pub lacks_version : Context → List ℕ → Bool
lacks_version context line = not context.begun && (has_tokens line && not (is_version (tokens line)))

-- there is something, and the test holds of it
abbrev pub is_some_with : {X : Type 0} → (X → Bool) → Option X → Bool
is_some_with test None = false
is_some_with test (Some x) = test x

-- the keyword of a line that belongs to programs
abbrev pub keyword_said : Context → List ℕ → Option Keyword
keyword_said context line = option_and_then (λ heading. heading.keyword) (said context line)

-- the line belongs to programs, and its keyword is none
abbrev pub has_unknown_word : Context → List ℕ → Bool
has_unknown_word context line = is_some_with (λ heading. is_none heading.keyword) (said context line)

-- the call isn't built yet
abbrev pub is_unbuilt : (Word → Bool) → Keyword → Bool
is_unbuilt built (keywords.Call word) = not (built word)
is_unbuilt built _ = false

-- the line may not stand where it stands, or no line follows and a block is still open behind it
abbrev pub breaks_blocks : Context → Bool → List ℕ → Bool
breaks_blocks context last line = is_some_with (λ keyword. not (may_stand context.open_blocks keyword)) (keyword_said context line) || (last && not (is_empty (after context line).open_blocks))

-- the line belongs to programs, and spells nothing
abbrev pub misspells : Context → List ℕ → Bool
misspells context line = is_some_with (λ heading. is_none (line_of heading)) (said context line)

-- a program of this name
abbrev pub has_name : List ℕ → Program → Bool
has_name name program = bytes_eq program.name name

-- the line opens a program of a name that one of these has
abbrev pub names_again : List Program → Line → Bool
names_again whole (Opens name params) = list_any (has_name name) whole
names_again whole _ = false

-- the line gives a program a name that one before it has
abbrev pub repeats_name : Context → List ℕ → Bool
repeats_name context line = is_some_with (names_again context.whole) (option_and_then line_of (said context line))

-- the programs that have begun
abbrev pub programs_begun : Context → ℕ
programs_begun context = if is_empty context.open_blocks then length context.whole else length context.whole + 1

-- more than 256 programs, 4,096 places in one, loops four deep or blocks 16 deep, the program among these
abbrev pub passes_limit : Context → Bool
passes_limit context = nat_lt 256 (programs_begun context) || (nat_lt 4096 (places context.current.statements) || (nat_lt 4 (loops context.open_blocks) || nat_lt 16 (length context.open_blocks)))

-- the reasons against a line in the order in which they are told, each with whether it holds; the line stands behind others, is or isn't the last, and so many calls are built
abbrev pub faults : (Word → Bool) → Context → Bool → List ℕ → List (Bool × Reason)
faults built context last line = (lacks_version context line, NoVersion)
    ∷ (not (list_all is_line_byte line), BadByte)
    ∷ (is_none (tokens line), BadText)
    ∷ (has_unknown_word context line, UnknownWord)
    ∷ (is_some_with (is_unbuilt built) (keyword_said context line), NotBuilt)
    ∷ (breaks_blocks context last line, BadBlock)
    ∷ (misspells context line, BadOperand)
    ∷ (repeats_name context line, RepeatedName)
    ∷ (passes_limit (after context line), TooLarge)
    ∷ []

-- the first reason that holds
abbrev pub first_reason : List (Bool × Reason) → Option Reason
first_reason [] = None
first_reason ((holds, reason) ∷ rest) = if holds then Some reason else first_reason rest
