-- What the tokens of a line were read as is written as those tokens.
use Rattle.std.proofs.Common.{◌≡◌, ℕ, List, [], ◌∷◌, ◌++◌, map, flat_map, Bool, true, if◌then◌else◌, Option, Some, None, IfSome, option_map, option_and_then, decimal, refl, ◌∙◌, arith, codes}
use Rattle.dill_base.specs.Errnos.{errno_text}
use Rattle.dill_calls.specs.CallTable.{form_of}
use Rattle.dill_calls.specs.declared.word.Word.{Word}
use Rattle.dill_calls.specs.Words.{word_text}
use Rattle.dill_script.specs.declared.line.Keyword.{Keyword}
use Rattle.dill_script.specs.declared.line.Keyword.TheVariants as keywords
use Rattle.dill_script.specs.declared.line.Register.{Register}
use Rattle.dill_script.specs.declared.statement.Cond.TheVariants as conds
use Rattle.dill_script.specs.declared.statement.Relation.TheVariants.{Equal, Unequal, Less, AtMost, Greater, AtLeast}
use Rattle.dill_script.specs.declared.statement.Statement.{Statement}
use Rattle.dill_script.specs.declared.statement.Statement.TheVariants as statements
use Rattle.dill_script.specs.Headings.{keyword_text}
use Rattle.dill_script.specs.Numbers.{named, only_if, number_up_to, errnos, errno_of}
use Rattle.dill_script.specs.Operands.{plain_in, name_of, number_register, bytes_register, num_of, bytes_of, operands_of, dest_of}
use Rattle.dill_script.specs.Printing.{number_register_text, bytes_register_text, num_text, bytes_token, operand_tokens, dest_tokens, try_tokens, cond_tokens, statement_tokens}
use Rattle.dill_script.specs.Statements.{Line, Opens, Ends, Says, relation_text, relation_of, both, number_cond, bytes_cond, err_of, cond_of, with_two, with_none, fail_of, loop_of, params_fit, program_of, dest_at, call_of_line, plain_line}
use Rattle.dill_script.specs.Table.{kinds_of, rest_kind}
use Rattle.dill_script.specs.Tokens.{Token, Plain, is_plain}
use Rattle.dill_script.proofs.OperandsWritten.{of_plain, num_token_is, register_token_is, bytes_register_token_is, bytes_token_is, name_token_is, operands_is, register_token, dest_is, is_that_plain}
use Rattle.dill_script.proofs.Options.{if_map, if_or, if_then, if_more, if_test, if_only, if_both}
use Rattle.dill_script.proofs.PlainsWritten.{named_is, number_is}

pub two : (a b c d : Token) → a ≡ c → b ≡ d → a ∷ b ∷ [] ≡ c ∷ d ∷ []
two a b c d e f = cc

three : (a b c d x y : Token) → a ≡ d → b ≡ x → c ≡ y → a ∷ b ∷ c ∷ [] ≡ d ∷ x ∷ y ∷ []
three a b c d x y e f g = cc

relation_is : (sign : Token) → IfSome (relation_of sign) (λ r. Plain (relation_text r) ≡ sign)
relation_is sign = of_plain (named relation_text (Equal ∷ Unequal ∷ Less ∷ AtMost ∷ Greater ∷ AtLeast ∷ [])) relation_text sign (named_is relation_text (Equal ∷ Unequal ∷ Less ∷ AtMost ∷ Greater ∷ AtLeast ∷ []))

errno_is : (token : Token) → IfSome (option_and_then errno_of (plain_in token)) (λ e. Plain (errno_text e) ≡ token)
errno_is token = of_plain errno_of errno_text token (named_is errno_text errnos)

number_cond_is : (left sign right : Token) → IfSome (number_cond left sign right) (λ c. cond_tokens c ≡ left ∷ sign ∷ right ∷ [])
number_cond_is left sign right = if_then (λ c. cond_tokens c ≡ left ∷ sign ∷ right ∷ []) (λ place. both (conds.Number place) (relation_of sign) (num_of right)) (number_register left)
    (if_more (λ p. Plain (number_register_text p) ≡ left) (λ p. IfSome (both (conds.Number p) (relation_of sign) (num_of right)) (λ c. cond_tokens c ≡ left ∷ sign ∷ right ∷ [])) (number_register left)
    (λ p e. if_both (λ r. Plain (relation_text r) ≡ sign) (λ n. Plain (num_text n) ≡ right) (λ c. cond_tokens c ≡ left ∷ sign ∷ right ∷ []) (conds.Number p) (relation_of sign) (num_of right)
    (λ r n f g. three (Plain (number_register_text p)) (Plain (relation_text r)) (Plain (num_text n)) left sign right e f g) (relation_is sign) (num_token_is right))
    (register_token_is left))

bytes_cond_is : (left sign right : Token) → IfSome (bytes_cond left sign right) (λ c. cond_tokens c ≡ left ∷ sign ∷ right ∷ [])
bytes_cond_is left sign right = if_test (λ c. cond_tokens c ≡ left ∷ sign ∷ right ∷ []) (is_plain (codes "=") sign) (both conds.Same (bytes_register left) (bytes_of right)) (if is_plain (codes "!=") sign then both conds.Differs (bytes_register left) (bytes_of right) else None)
    (λ e. if_both (λ p. Plain (bytes_register_text p) ≡ left) (λ b. bytes_token b ≡ right) (λ c. cond_tokens c ≡ left ∷ sign ∷ right ∷ []) conds.Same (bytes_register left) (bytes_of right) (λ p b f g. three (Plain (bytes_register_text p)) (Plain (codes "=")) (bytes_token b) left sign right f (is_that_plain (codes "=") sign e) g) (bytes_register_token_is left) (bytes_token_is right))
    (λ e. if_test (λ c. cond_tokens c ≡ left ∷ sign ∷ right ∷ []) (is_plain (codes "!=") sign) (both conds.Differs (bytes_register left) (bytes_of right)) None
    (λ h. if_both (λ p. Plain (bytes_register_text p) ≡ left) (λ b. bytes_token b ≡ right) (λ c. cond_tokens c ≡ left ∷ sign ∷ right ∷ []) conds.Differs (bytes_register left) (bytes_of right) (λ p b f g. three (Plain (bytes_register_text p)) (Plain (codes "!=")) (bytes_token b) left sign right f (is_that_plain (codes "!=") sign h) g) (bytes_register_token_is left) (bytes_token_is right))
    (λ h. tt))

err_is : (first second : Token) → is_plain (codes "err") first ≡ true → IfSome (err_of second) (λ c. cond_tokens c ≡ first ∷ second ∷ [])
err_is first second e = if_test (λ c. cond_tokens c ≡ first ∷ second ∷ []) (is_plain (codes "none") second) (Some (conds.Err None)) (option_map (λ errno. conds.Err (Some errno)) (option_and_then errno_of (plain_in second)))
    (λ f. two (Plain (codes "err")) (Plain (codes "none")) first second (is_that_plain (codes "err") first e) (is_that_plain (codes "none") second f))
    (λ f. if_map (λ c. cond_tokens c ≡ first ∷ second ∷ []) (λ errno. conds.Err (Some errno)) (option_and_then errno_of (plain_in second)) (if_more (λ x. Plain (errno_text x) ≡ second) (λ x. Plain (codes "err") ∷ Plain (errno_text x) ∷ [] ≡ first ∷ second ∷ []) (option_and_then errno_of (plain_in second)) (λ x g. two (Plain (codes "err")) (Plain (errno_text x)) first second (is_that_plain (codes "err") first e) g) (errno_is second)))

cond_is : (tokens : List Token) → IfSome (cond_of tokens) (λ c. cond_tokens c ≡ tokens)
cond_is (left ∷ sign ∷ right ∷ []) = if_or (λ c. cond_tokens c ≡ left ∷ sign ∷ right ∷ []) (number_cond left sign right) (bytes_cond left sign right) (number_cond_is left sign right) (bytes_cond_is left sign right)
cond_is (first ∷ second ∷ []) = if_test (λ c. cond_tokens c ≡ first ∷ second ∷ []) (is_plain (codes "err") first) (err_of second) None (λ e. err_is first second e) (λ e. tt)
cond_is _ = tt

-- the tokens of what a line spells
abbrev pub spelled : Line → List Token
spelled (Opens name params) = Plain (codes "program") ∷ Plain name ∷ Plain (decimal params) ∷ []
spelled Ends = Plain (codes "end") ∷ []
spelled (Says statement) = statement_tokens statement

-- the tokens before a line's keyword
abbrev pub target_tokens : List Register → List Token
target_tokens [] = []
target_tokens (register ∷ rest) = map register_token (register ∷ rest) ++ Plain (codes "=") ∷ []

-- a line's keyword and its operands
abbrev pub behind_keyword : Keyword → List Token → List Token
behind_keyword keyword tokens = Plain (keyword_text keyword) ∷ tokens

-- a line of two operands, or of none
pub two_is : {X : Type 0} (P : List Token → X → Type 0) (f : Token → Token → Option X) (tokens : List Token) → ((a b : Token) → IfSome (f a b) (P (a ∷ b ∷ []))) → IfSome (with_two f tokens) (P tokens)
two_is P f (a ∷ b ∷ []) h = h a b
two_is P f _ h = tt

pub none_is : {X : Type 0} (P : List Token → X → Type 0) (x : X) (tokens : List Token) → P [] x → IfSome (with_none x tokens) (P tokens)
none_is P x [] h = h
none_is P x (token ∷ rest) h = tt

pub same_behind : (word : Token) (xs ys : List Token) → xs ≡ ys → word ∷ xs ≡ word ∷ ys
same_behind word xs ys e = cc

-- what a plain line of this keyword spells
abbrev pub Plainly : Keyword → List Token → Line → Type 0
Plainly keyword tokens line = spelled line ≡ behind_keyword keyword tokens

program_is : (a b : Token) → IfSome (program_of a b) (Plainly keywords.Program (a ∷ b ∷ []))
program_is a b = if_then (Plainly keywords.Program (a ∷ b ∷ [])) (λ opened. option_and_then (λ count. only_if (params_fit opened count) (Opens opened count)) (option_and_then (number_up_to 16) (plain_in b))) (name_of a)
    (if_more (λ name. Plain name ≡ a) (λ opened. IfSome (option_and_then (λ count. only_if (params_fit opened count) (Opens opened count)) (option_and_then (number_up_to 16) (plain_in b))) (Plainly keywords.Program (a ∷ b ∷ []))) (name_of a)
    (λ opened e. if_then (Plainly keywords.Program (a ∷ b ∷ [])) (λ count. only_if (params_fit opened count) (Opens opened count)) (option_and_then (number_up_to 16) (plain_in b))
    (if_more (λ count. Plain (decimal count) ≡ b) (λ count. IfSome (only_if (params_fit opened count) (Opens opened count)) (Plainly keywords.Program (a ∷ b ∷ []))) (option_and_then (number_up_to 16) (plain_in b))
    (λ count f. if_only (Plainly keywords.Program (a ∷ b ∷ [])) (params_fit opened count) (Opens opened count) (λ g. same_behind (Plain (codes "program")) (Plain opened ∷ Plain (decimal count) ∷ []) (a ∷ b ∷ []) (two (Plain opened) (Plain (decimal count)) a b e f)))
    (of_plain (number_up_to 16) decimal b (λ word. number_is 16 word (omega arith)))))
    (name_token_is a))

-- a statement of a register and what stands behind it
paired : {X Y : Type 0} (word : List ℕ) (make : X → Y → Statement) (left : X → Token) (right : Y → Token) (o : Option X) (p : Option Y) (a b : Token) → ((x : X) (y : Y) → statement_tokens (make x y) ≡ Plain word ∷ left x ∷ right y ∷ []) → IfSome o (λ x. left x ≡ a) → IfSome p (λ y. right y ≡ b) → IfSome (both make o p) (λ statement. statement_tokens statement ≡ Plain word ∷ a ∷ b ∷ [])
paired word make left right o p a b m h k = if_both (λ x. left x ≡ a) (λ y. right y ≡ b) (λ statement. statement_tokens statement ≡ Plain word ∷ a ∷ b ∷ []) make o p (λ x y e f. m x y ∙ same_behind (Plain word) (left x ∷ right y ∷ []) (a ∷ b ∷ []) (two (left x) (right y) a b e f)) h k

fail_is : (tokens : List Token) → IfSome (fail_of tokens) (λ statement. statement_tokens statement ≡ Plain (codes "fail") ∷ tokens)
fail_is (token ∷ []) = if_map (λ statement. statement_tokens statement ≡ Plain (codes "fail") ∷ token ∷ []) statements.Fail (option_and_then errno_of (plain_in token)) (if_more (λ e. Plain (errno_text e) ≡ token) (λ e. Plain (codes "fail") ∷ Plain (errno_text e) ∷ [] ≡ Plain (codes "fail") ∷ token ∷ []) (option_and_then errno_of (plain_in token)) (λ e f. two (Plain (codes "fail")) (Plain (errno_text e)) (Plain (codes "fail")) token refl f) (errno_is token))
fail_is _ = tt

loop_is : (tokens : List Token) → IfSome (loop_of tokens) (λ statement. statement_tokens statement ≡ Plain (codes "loop") ∷ tokens)
loop_is [] = refl
loop_is (token ∷ []) = if_map (λ statement. statement_tokens statement ≡ Plain (codes "loop") ∷ token ∷ []) (λ rounds. statements.Loop (Some rounds)) (num_of token) (if_more (λ n. Plain (num_text n) ≡ token) (λ n. Plain (codes "loop") ∷ Plain (num_text n) ∷ [] ≡ Plain (codes "loop") ∷ token ∷ []) (num_of token) (λ n f. two (Plain (codes "loop")) (Plain (num_text n)) (Plain (codes "loop")) token refl f) (num_token_is token))
loop_is _ = tt

pub plain_is : (keyword : Keyword) (tokens : List Token) → IfSome (plain_line keyword tokens) (Plainly keyword tokens)
plain_is keywords.Program tokens = two_is (Plainly keywords.Program) program_of tokens program_is
plain_is keywords.Finally tokens = none_is (Plainly keywords.Finally) (Says statements.Finally) tokens refl
plain_is keywords.Else tokens = none_is (Plainly keywords.Else) (Says statements.Else) tokens refl
plain_is keywords.End tokens = none_is (Plainly keywords.End) Ends tokens refl
plain_is keywords.Add tokens = if_map (Plainly keywords.Add tokens) Says (with_two (λ place value. both statements.Add (number_register place) (num_of value)) tokens) (two_is (λ list statement. statement_tokens statement ≡ behind_keyword keywords.Add list) (λ place value. both statements.Add (number_register place) (num_of value)) tokens (λ a b. paired (codes "add") statements.Add (λ p. Plain (number_register_text p)) (λ n. Plain (num_text n)) (number_register a) (num_of b) a b (λ p n. refl) (register_token_is a) (num_token_is b)))
plain_is keywords.Sub tokens = if_map (Plainly keywords.Sub tokens) Says (with_two (λ place value. both statements.Sub (number_register place) (num_of value)) tokens) (two_is (λ list statement. statement_tokens statement ≡ behind_keyword keywords.Sub list) (λ place value. both statements.Sub (number_register place) (num_of value)) tokens (λ a b. paired (codes "sub") statements.Sub (λ p. Plain (number_register_text p)) (λ n. Plain (num_text n)) (number_register a) (num_of b) a b (λ p n. refl) (register_token_is a) (num_token_is b)))
plain_is keywords.Len tokens = if_map (Plainly keywords.Len tokens) Says (with_two (λ place source. both statements.Len (number_register place) (bytes_register source)) tokens) (two_is (λ list statement. statement_tokens statement ≡ behind_keyword keywords.Len list) (λ place source. both statements.Len (number_register place) (bytes_register source)) tokens (λ a b. paired (codes "len") statements.Len (λ p. Plain (number_register_text p)) (λ p. Plain (bytes_register_text p)) (number_register a) (bytes_register b) a b (λ p n. refl) (register_token_is a) (bytes_register_token_is b)))
plain_is keywords.If tokens = if_map (Plainly keywords.If tokens) (λ cond. Says (statements.If cond)) (cond_of tokens) (if_more (λ c. cond_tokens c ≡ tokens) (λ c. Plain (codes "if") ∷ cond_tokens c ≡ Plain (codes "if") ∷ tokens) (cond_of tokens) (λ c e. same_behind (Plain (codes "if")) (cond_tokens c) tokens e) (cond_is tokens))
plain_is keywords.Loop tokens = if_map (Plainly keywords.Loop tokens) Says (loop_of tokens) (loop_is tokens)
plain_is keywords.Break tokens = none_is (Plainly keywords.Break) (Says statements.Break) tokens refl
plain_is keywords.Return tokens = none_is (Plainly keywords.Return) (Says statements.Return) tokens refl
plain_is keywords.Fail tokens = if_map (Plainly keywords.Fail tokens) Says (fail_of tokens) (fail_is tokens)
plain_is _ tokens = tt

-- what a line with these parts spells
abbrev pub Wholly : Bool → List Register → Keyword → List Token → Line → Type 0
Wholly tried targets keyword tokens line = spelled line ≡ try_tokens tried ++ (target_tokens targets ++ behind_keyword keyword tokens)

dest_at_is : (word : Word) (targets : List Register) → IfSome (dest_at word targets) (λ dest. dest_tokens dest ≡ target_tokens targets)
dest_at_is word [] = refl
dest_at_is word (register ∷ targets) = if_map (λ dest. dest_tokens dest ≡ target_tokens (register ∷ targets)) (λ dest. Some dest) (dest_of (form_of word) (register ∷ targets)) (dest_is (form_of word) (register ∷ targets))

call_same : (tried : Bool) (word : Token) (a b xs ys : List Token) → a ≡ b → xs ≡ ys → try_tokens tried ++ (a ++ word ∷ xs) ≡ try_tokens tried ++ (b ++ word ∷ ys)
call_same tried word a b xs ys e f = rw e (rw f refl)

pub call_is : (tried : Bool) (targets : List Register) (word : Word) (tokens : List Token) → IfSome (call_of_line tried word targets tokens) (λ statement. statement_tokens statement ≡ try_tokens tried ++ (target_tokens targets ++ behind_keyword (keywords.Call word) tokens))
call_is tried targets word tokens = if_both (λ dest. dest_tokens dest ≡ target_tokens targets) (λ list. flat_map operand_tokens list ≡ tokens) (λ statement. statement_tokens statement ≡ try_tokens tried ++ (target_tokens targets ++ behind_keyword (keywords.Call word) tokens)) (λ dest operands. statements.Call tried dest (record { word = word; operands = operands })) (dest_at word targets) (operands_of (kinds_of word) (rest_kind word) tokens)
    (λ dest list e f. call_same tried (Plain (word_text word)) (dest_tokens dest) (target_tokens targets) (flat_map operand_tokens list) tokens e f) (dest_at_is word targets) (operands_is (kinds_of word) (rest_kind word) tokens)
