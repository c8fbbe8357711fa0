-- Each keyword spells lines of its own.
use Rattle.std.proofs.Common.{◌≡◌, List, [], ◌∷◌, Bool, true, false, Option, Some, None, IfSome, option_map, option_and_then, refl}
use Rattle.dill_calls.specs.declared.word.Word.{Word}
use Rattle.dill_script.specs.declared.line.Keyword.{Keyword}
use Rattle.dill_script.specs.declared.line.Keyword.TheVariants as keywords
use Rattle.dill_script.specs.declared.line.Register.{Register}
use Rattle.dill_script.specs.declared.line.Register.TheVariants as registers
use Rattle.dill_script.specs.declared.statement.Statement.{Statement}
use Rattle.dill_script.specs.declared.statement.Statement.TheVariants as statements
use Rattle.dill_script.specs.Headings.{Heading}
use Rattle.dill_script.specs.Numbers.{only_if, number_up_to, errno_of}
use Rattle.dill_script.specs.Operands.{plain_in, name_of, register_in, number_register, bytes_register, num_of, bytes_of, operands_of}
use Rattle.dill_script.specs.Statements.{Line, Opens, Ends, Says, both, set_at, with_two, with_none, params_fit, program_of, fail_of, loop_of, cond_of, dest_at, call_of_line, plain_line, keyword_line, line_of}
use Rattle.dill_script.specs.Table.{kinds_of, rest_kind}
use Rattle.dill_script.specs.Tokens.{Token}
use Rattle.dill_script.proofs.Formed.{always, mapped}
use Rattle.dill_script.proofs.LinesWritten.{two_is, none_is}
use Rattle.dill_script.proofs.Options.{if_map, if_then, if_only, if_both}

-- the keyword of a statement's line; an `end` is no statement's
abbrev pub keyword_in : Statement → Option Keyword
keyword_in (statements.Set place value) = Some keywords.Set
keyword_in (statements.Keep tried place value) = Some keywords.Set
keyword_in (statements.Add place value) = Some keywords.Add
keyword_in (statements.Sub place value) = Some keywords.Sub
keyword_in (statements.Len place source) = Some keywords.Len
keyword_in (statements.If cond) = Some keywords.If
keyword_in statements.Else = Some keywords.Else
keyword_in statements.EndIf = None
keyword_in (statements.Loop rounds) = Some keywords.Loop
keyword_in statements.EndLoop = None
keyword_in statements.Break = Some keywords.Break
keyword_in statements.Return = Some keywords.Return
keyword_in (statements.Fail errno) = Some keywords.Fail
keyword_in statements.Finally = Some keywords.Finally
keyword_in (statements.Join tried place value) = Some keywords.Join
keyword_in (statements.Call tried dest form) = Some (keywords.Call form.word)

-- the keyword that a line was spelled by
abbrev pub keyword_at : Line → Option Keyword
keyword_at (Opens name params) = Some keywords.Program
keyword_at Ends = Some keywords.End
keyword_at (Says statement) = keyword_in statement

-- a line of this keyword
abbrev pub SpelledBy : Keyword → Line → Type 0
SpelledBy k line = keyword_at line ≡ Some k

-- a statement of this keyword
abbrev SaidBy : Keyword → Statement → Type 0
SaidBy k statement = keyword_in statement ≡ Some k

says : (k : Keyword) (o : Option Statement) → IfSome o (SaidBy k) → IfSome (option_map Says o) (SpelledBy k)
says k o h = if_map (SpelledBy k) Says o h

paired : {X Y : Type 0} (k : Keyword) (make : X → Y → Statement) (o : Option X) (p : Option Y) → ((x : X) (y : Y) → SaidBy k (make x y)) → IfSome (both make o p) (SaidBy k)
paired {X} {Y} k make o p h = if_both (λ (x : X). Unit {0}) (λ (y : Y). Unit {0}) (SaidBy k) make o p (λ x y e f. h x y) (always (λ x. Unit {0}) o (λ x. tt)) (always (λ y. Unit {0}) p (λ y. tt))

two_by : (k : Keyword) (f : Token → Token → Option Statement) (tokens : List Token) → ((a b : Token) → IfSome (f a b) (SaidBy k)) → IfSome (option_map Says (with_two f tokens)) (SpelledBy k)
two_by k f tokens h = says k (with_two f tokens) (two_is (λ list. SaidBy k) f tokens h)

call_by : (tried : Bool) (targets : List Register) (word : Word) (tokens : List Token) → IfSome (call_of_line tried word targets tokens) (SaidBy (keywords.Call word))
call_by tried targets word tokens = paired (keywords.Call word) (λ dest operands. statements.Call tried dest (record { word = word; operands = operands })) (dest_at word targets) (operands_of (kinds_of word) (rest_kind word) tokens) (λ dest list. refl)

fail_by : (tokens : List Token) → IfSome (fail_of tokens) (SaidBy keywords.Fail)
fail_by (token ∷ []) = mapped (SaidBy keywords.Fail) statements.Fail (option_and_then errno_of (plain_in token)) (λ x. refl)
fail_by _ = tt

loop_by : (tokens : List Token) → IfSome (loop_of tokens) (SaidBy keywords.Loop)
loop_by [] = refl
loop_by (token ∷ []) = mapped (SaidBy keywords.Loop) (λ rounds. statements.Loop (Some rounds)) (num_of token) (λ x. refl)
loop_by _ = tt

set_by : (tried : Bool) (value : Token) (register : Register) → IfSome (set_at tried register value) (SaidBy keywords.Set)
set_by true value (registers.Number place) = tt
set_by false value (registers.Number place) = mapped (SaidBy keywords.Set) (statements.Set place) (num_of value) (λ x. refl)
set_by tried value (registers.Bytes place) = mapped (SaidBy keywords.Set) (statements.Keep tried place) (bytes_of value) (λ x. refl)

set_line_by : (tried : Bool) (target value : Token) → IfSome (option_and_then (λ register. set_at tried register value) (register_in target)) (SaidBy keywords.Set)
set_line_by tried target value = if_then (SaidBy keywords.Set) (λ register. set_at tried register value) (register_in target) (always (λ register. IfSome (set_at tried register value) (SaidBy keywords.Set)) (register_in target) (set_by tried value))

program_by : (a b : Token) → IfSome (program_of a b) (SpelledBy keywords.Program)
program_by a b = if_then (SpelledBy keywords.Program) (λ name. option_and_then (λ count. only_if (params_fit name count) (Opens name count)) (option_and_then (number_up_to 16) (plain_in b))) (name_of a)
    (always (λ name. IfSome (option_and_then (λ count. only_if (params_fit name count) (Opens name count)) (option_and_then (number_up_to 16) (plain_in b))) (SpelledBy keywords.Program)) (name_of a)
    (λ name. if_then (SpelledBy keywords.Program) (λ count. only_if (params_fit name count) (Opens name count)) (option_and_then (number_up_to 16) (plain_in b))
    (always (λ count. IfSome (only_if (params_fit name count) (Opens name count)) (SpelledBy keywords.Program)) (option_and_then (number_up_to 16) (plain_in b)) (λ count. if_only (SpelledBy keywords.Program) (params_fit name count) (Opens name count) (λ e. refl)))))

none_by : (k : Keyword) (line : Line) (tokens : List Token) → SpelledBy k line → IfSome (with_none line tokens) (SpelledBy k)
none_by k line tokens h = none_is (λ list. SpelledBy k) line tokens h

plain_by : (k : Keyword) (tokens : List Token) → IfSome (plain_line k tokens) (SpelledBy k)
plain_by keywords.Program tokens = two_is (λ list. SpelledBy keywords.Program) program_of tokens program_by
plain_by keywords.Finally tokens = none_by keywords.Finally (Says statements.Finally) tokens refl
plain_by keywords.Else tokens = none_by keywords.Else (Says statements.Else) tokens refl
plain_by keywords.End tokens = none_by keywords.End Ends tokens refl
plain_by keywords.Add tokens = two_by keywords.Add (λ place value. both statements.Add (number_register place) (num_of value)) tokens (λ a b. paired keywords.Add statements.Add (number_register a) (num_of b) (λ x y. refl))
plain_by keywords.Sub tokens = two_by keywords.Sub (λ place value. both statements.Sub (number_register place) (num_of value)) tokens (λ a b. paired keywords.Sub statements.Sub (number_register a) (num_of b) (λ x y. refl))
plain_by keywords.Len tokens = two_by keywords.Len (λ place source. both statements.Len (number_register place) (bytes_register source)) tokens (λ a b. paired keywords.Len statements.Len (number_register a) (bytes_register b) (λ x y. refl))
plain_by keywords.If tokens = mapped (SpelledBy keywords.If) (λ cond. Says (statements.If cond)) (cond_of tokens) (λ x. refl)
plain_by keywords.Loop tokens = says keywords.Loop (loop_of tokens) (loop_by tokens)
plain_by keywords.Break tokens = none_by keywords.Break (Says statements.Break) tokens refl
plain_by keywords.Return tokens = none_by keywords.Return (Says statements.Return) tokens refl
plain_by keywords.Fail tokens = says keywords.Fail (fail_of tokens) (fail_by tokens)
plain_by _ tokens = tt

pub keyword_line_by : (tried : Bool) (targets : List Register) (k : Keyword) (tokens : List Token) → IfSome (keyword_line tried targets k tokens) (SpelledBy k)
keyword_line_by tried targets (keywords.Call word) tokens = says (keywords.Call word) (call_of_line tried word targets tokens) (call_by tried targets word tokens)
keyword_line_by tried [] keywords.Set tokens = two_by keywords.Set (λ target value. option_and_then (λ register. set_at tried register value) (register_in target)) tokens (set_line_by tried)
keyword_line_by tried [] keywords.Join tokens = two_by keywords.Join (λ place value. both (statements.Join tried) (bytes_register place) (bytes_of value)) tokens (λ a b. paired keywords.Join (statements.Join tried) (bytes_register a) (bytes_of b) (λ x y. refl))
keyword_line_by false [] k tokens = plain_by k tokens
keyword_line_by _ _ _ _ = tt

-- the line of a head has the head's keyword
pub line_by : (heading : Heading) (o : Option Keyword) → IfSome (option_and_then (λ k. keyword_line heading.tried heading.targets k heading.operands) o) (λ line. keyword_at line ≡ o)
line_by heading None = tt
line_by heading (Some k) = keyword_line_by heading.tried heading.targets k heading.operands
