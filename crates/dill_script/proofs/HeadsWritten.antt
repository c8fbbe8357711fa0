-- A line is written with the `try`, the registers and the keyword that it was read with.
use Rattle.std.proofs.Common.{◌≡◌, ℕ, List, [], ◌∷◌, ◌++◌, map, Bool, true, false, if◌then◌else◌, Option, Some, None, IfSome, option_map, option_and_then, refl, sym, ap, ◌∙◌, subst, codes, append_assoc}
use Rattle.std.proofs.lemmas.Option.{none-some}
use Rattle.dill_script.specs.declared.line.Keyword.{Keyword}
use Rattle.dill_script.specs.declared.line.Keyword.TheVariants as keywords
use Rattle.dill_script.specs.declared.line.Register.{Register}
use Rattle.dill_script.specs.declared.line.Register.TheVariants as registers
use Rattle.dill_script.specs.declared.statement.Statement.{Statement}
use Rattle.dill_script.specs.declared.statement.Statement.TheVariants as statements
use Rattle.dill_script.specs.Headings.{Heading, keyword_text, all_keywords, keyword_of, with_target, up_to_equals, with_keyword, with_targets, heading_of}
use Rattle.dill_script.specs.Numbers.{named, register_of}
use Rattle.dill_script.specs.Operands.{register_in, bytes_register, num_of, bytes_of}
use Rattle.dill_script.specs.Printing.{number_register_text, bytes_register_text, num_text, bytes_token, try_tokens, statement_tokens}
use Rattle.dill_script.specs.Statements.{Says, both, set_at, with_two, keyword_line, line_of}
use Rattle.dill_script.specs.Tokens.{Token, Plain, Text, is_plain}
use Rattle.dill_script.proofs.LinesWritten.{spelled, target_tokens, behind_keyword, Wholly, two_is, plain_is, call_is}
use Rattle.dill_script.proofs.OperandsWritten.{of_plain, num_token_is, bytes_register_token_is, bytes_token_is, register_token, is_that_plain}
use Rattle.dill_script.proofs.Options.{if_map, if_then, if_more, if_test, if_both}
use Rattle.dill_script.proofs.PlainsWritten.{named_is, register_is, register_text}

register_token_of : (word : List ℕ) (r : Register) → register_text r ≡ word → register_token r ≡ Plain word
register_token_of word (registers.Number place) e = ap Plain e
register_token_of word (registers.Bytes place) e = ap Plain e

pub register_in_is : (token : Token) → IfSome (register_in token) (λ r. register_token r ≡ token)
register_in_is (Plain word) = if_more (λ r. register_text r ≡ word) (λ r. register_token r ≡ Plain word) (register_of word) (λ r e. register_token_of word r e) (register_is word)
register_in_is (Text literal) = tt

try_behind : (tried : Bool) (xs ys : List Token) → xs ≡ ys → try_tokens tried ++ xs ≡ try_tokens tried ++ ys
try_behind tried xs ys e = rw e refl

three_same : (word : Token) (a b c d : Token) → a ≡ c → b ≡ d → word ∷ a ∷ b ∷ [] ≡ word ∷ c ∷ d ∷ []
three_same word a b c d e f = cc

no_try : (tried : Bool) (o : Option Statement) (P : Statement → Type 0) → (tried ≡ false → IfSome o P) → IfSome (if tried then None else o) P
no_try true o P h = tt
no_try false o P h = h refl

set_at_is : (tried : Bool) (register : Register) (target value : Token) → register_token register ≡ target → IfSome (set_at tried register value) (λ statement. statement_tokens statement ≡ try_tokens tried ++ Plain (codes "set") ∷ target ∷ value ∷ [])
set_at_is tried (registers.Number place) target value e = no_try tried (option_map (statements.Set place) (num_of value)) (λ statement. statement_tokens statement ≡ try_tokens tried ++ Plain (codes "set") ∷ target ∷ value ∷ [])
    (λ untried. if_map (λ statement. statement_tokens statement ≡ try_tokens tried ++ Plain (codes "set") ∷ target ∷ value ∷ []) (statements.Set place) (num_of value) (if_more (λ n. Plain (num_text n) ≡ value) (λ n. Plain (codes "set") ∷ Plain (number_register_text place) ∷ Plain (num_text n) ∷ [] ≡ try_tokens tried ++ Plain (codes "set") ∷ target ∷ value ∷ []) (num_of value)
    (λ n f. three_same (Plain (codes "set")) (Plain (number_register_text place)) (Plain (num_text n)) target value e f ∙ sym (ap (λ b. try_tokens b ++ Plain (codes "set") ∷ target ∷ value ∷ []) untried)) (num_token_is value)))
set_at_is tried (registers.Bytes place) target value e = if_map (λ statement. statement_tokens statement ≡ try_tokens tried ++ Plain (codes "set") ∷ target ∷ value ∷ []) (statements.Keep tried place) (bytes_of value) (if_more (λ b. bytes_token b ≡ value) (λ b. try_tokens tried ++ Plain (codes "set") ∷ Plain (bytes_register_text place) ∷ bytes_token b ∷ [] ≡ try_tokens tried ++ Plain (codes "set") ∷ target ∷ value ∷ []) (bytes_of value)
    (λ b f. try_behind tried (Plain (codes "set") ∷ Plain (bytes_register_text place) ∷ bytes_token b ∷ []) (Plain (codes "set") ∷ target ∷ value ∷ []) (three_same (Plain (codes "set")) (Plain (bytes_register_text place)) (bytes_token b) target value e f)) (bytes_token_is value))

set_is : (tried : Bool) (target value : Token) → IfSome (option_and_then (λ register. set_at tried register value) (register_in target)) (λ statement. statement_tokens statement ≡ try_tokens tried ++ Plain (codes "set") ∷ target ∷ value ∷ [])
set_is tried target value = if_then (λ statement. statement_tokens statement ≡ try_tokens tried ++ Plain (codes "set") ∷ target ∷ value ∷ []) (λ register. set_at tried register value) (register_in target) (if_more (λ r. register_token r ≡ target) (λ r. IfSome (set_at tried r value) (λ statement. statement_tokens statement ≡ try_tokens tried ++ Plain (codes "set") ∷ target ∷ value ∷ [])) (register_in target) (λ r e. set_at_is tried r target value e) (register_in_is target))

join_is : (tried : Bool) (place value : Token) → IfSome (both (statements.Join tried) (bytes_register place) (bytes_of value)) (λ statement. statement_tokens statement ≡ try_tokens tried ++ Plain (codes "join") ∷ place ∷ value ∷ [])
join_is tried place value = if_both (λ p. Plain (bytes_register_text p) ≡ place) (λ b. bytes_token b ≡ value) (λ statement. statement_tokens statement ≡ try_tokens tried ++ Plain (codes "join") ∷ place ∷ value ∷ []) (statements.Join tried) (bytes_register place) (bytes_of value)
    (λ p b e f. try_behind tried (Plain (codes "join") ∷ Plain (bytes_register_text p) ∷ bytes_token b ∷ []) (Plain (codes "join") ∷ place ∷ value ∷ []) (three_same (Plain (codes "join")) (Plain (bytes_register_text p)) (bytes_token b) place value e f)) (bytes_register_token_is place) (bytes_token_is value)

-- a line is written with all that it was read with
pub keyword_line_is : (tried : Bool) (targets : List Register) (keyword : Keyword) (tokens : List Token) → IfSome (keyword_line tried targets keyword tokens) (Wholly tried targets keyword tokens)
keyword_line_is tried targets (keywords.Call word) tokens = if_map (Wholly tried targets (keywords.Call word) tokens) Says _ (call_is tried targets word tokens)
keyword_line_is tried [] keywords.Set tokens = if_map (Wholly tried [] keywords.Set tokens) Says (with_two (λ target value. option_and_then (λ register. set_at tried register value) (register_in target)) tokens) (two_is (λ list statement. statement_tokens statement ≡ try_tokens tried ++ behind_keyword keywords.Set list) (λ target value. option_and_then (λ register. set_at tried register value) (register_in target)) tokens (λ a b. set_is tried a b))
keyword_line_is tried [] keywords.Join tokens = if_map (Wholly tried [] keywords.Join tokens) Says (with_two (λ place value. both (statements.Join tried) (bytes_register place) (bytes_of value)) tokens) (two_is (λ list statement. statement_tokens statement ≡ try_tokens tried ++ behind_keyword keywords.Join list) (λ place value. both (statements.Join tried) (bytes_register place) (bytes_of value)) tokens (λ a b. join_is tried a b))
keyword_line_is false [] keyword tokens = plain_is keyword tokens
keyword_line_is _ _ _ _ = tt

keyword_is : (token : Token) → IfSome (keyword_of token) (λ k. Plain (keyword_text k) ≡ token)
keyword_is token = of_plain (named keyword_text all_keywords) keyword_text token (named_is keyword_text all_keywords)

-- the tokens that a head stands for
abbrev Heads : List Token → Heading → Type 0
Heads tokens heading = (k : Keyword) → heading.keyword ≡ Some k → try_tokens heading.tried ++ (target_tokens heading.targets ++ behind_keyword k heading.operands) ≡ tokens

some_same : (x k : Keyword) → Some x ≡ Some k → x ≡ k
some_same x k e = cc

word_from : (P : Keyword → Type 0) (o : Option Keyword) (k : Keyword) → IfSome o P → o ≡ Some k → P k
word_from P None k h e = absurd (none-some k e)
word_from P (Some x) k h e = subst P (some_same x k e) h

-- the keyword behind some tokens
with_keyword_is : (tried : Bool) (targets : List Register) (tokens : List Token) → Heads (try_tokens tried ++ (target_tokens targets ++ tokens)) (with_keyword tried targets tokens)
with_keyword_is tried targets [] k e = absurd (none-some k e)
with_keyword_is tried targets (token ∷ rest) k e =
    let h : Plain (keyword_text k) ≡ token = word_from (λ w. Plain (keyword_text w) ≡ token) (keyword_of token) k (keyword_is token) e in
    ap (λ t. try_tokens tried ++ (target_tokens targets ++ t ∷ rest)) h

-- registers up to a `=`, and what stands behind it
abbrev Equals : List Token → List Register × List Token → Type 0
Equals tokens found = map register_token found.0 ++ Plain (codes "=") ∷ found.1 ≡ tokens

same_pair : (a b : Token) (xs ys : List Token) → a ≡ b → xs ≡ ys → a ∷ xs ≡ b ∷ ys
same_pair a b xs ys e f = cc

with_target_is : (o : Option Register) (p : Option (List Register × List Token)) (token : Token) (rest : List Token) → IfSome o (λ r. register_token r ≡ token) → IfSome p (Equals rest) → IfSome (with_target o p) (Equals (token ∷ rest))
with_target_is None None token rest h k = tt
with_target_is None (Some found) token rest h k = tt
with_target_is (Some register) None token rest h k = tt
with_target_is (Some register) (Some (targets, behind)) token rest h k = same_pair (register_token register) token (map register_token targets ++ Plain (codes "=") ∷ behind) rest h k

up_to_equals_is : (tokens : List Token) → IfSome (up_to_equals tokens) (Equals tokens)
up_to_equals_is [] = tt
up_to_equals_is (token ∷ rest) = if_test (Equals (token ∷ rest)) (is_plain (codes "=") token) (Some ([], rest)) (with_target (register_in token) (up_to_equals rest)) (λ e. ap (λ t. t ∷ rest) (is_that_plain (codes "=") token e)) (λ e. with_target_is (register_in token) (up_to_equals rest) token rest (register_in_is token) (up_to_equals_is rest))

with_targets_is : (tried : Bool) (tokens : List Token) (found : Option (List Register × List Token)) → IfSome found (Equals tokens) → Heads (try_tokens tried ++ tokens) (with_targets tried tokens found)
with_targets_is tried tokens (Some (register ∷ targets, behind)) h k e = with_keyword_is tried (register ∷ targets) behind k e ∙ ap (λ t. try_tokens tried ++ t) (append_assoc (map register_token (register ∷ targets)) (Plain (codes "=") ∷ []) behind ∙ h)
with_targets_is tried tokens (Some ([], behind)) h k e = with_keyword_is tried [] tokens k e
with_targets_is tried tokens None h k e = with_keyword_is tried [] tokens k e

either_heads : (tokens : List Token) (b : Bool) (first second : Heading) → (b ≡ true → Heads tokens first) → Heads tokens second → Heads tokens (if b then first else second)
either_heads tokens true first second h k = h refl
either_heads tokens false first second h k = k

pub heading_is : (tokens : List Token) → Heads tokens (heading_of tokens)
heading_is [] = with_keyword_is false [] []
heading_is (token ∷ rest) = either_heads (token ∷ rest) (is_plain (codes "try") token) (with_targets true rest (up_to_equals rest)) (with_targets false (token ∷ rest) (up_to_equals (token ∷ rest)))
    (λ e. subst (λ t. Heads (t ∷ rest) (with_targets true rest (up_to_equals rest))) (is_that_plain (codes "try") token e) (with_targets_is true rest (up_to_equals rest) (up_to_equals_is rest)))
    (with_targets_is false (token ∷ rest) (up_to_equals (token ∷ rest)) (up_to_equals_is (token ∷ rest)))

headed : (tokens : List Token) (heading : Heading) (o : Option Keyword) → heading.keyword ≡ o → Heads tokens heading → IfSome (option_and_then (λ keyword. keyword_line heading.tried heading.targets keyword heading.operands) o) (λ line. spelled line ≡ tokens)
headed tokens heading None e h = tt
headed tokens heading (Some keyword) e h = if_more (Wholly heading.tried heading.targets keyword heading.operands) (λ line. spelled line ≡ tokens) (keyword_line heading.tried heading.targets keyword heading.operands) (λ line f. f ∙ h keyword e) (keyword_line_is heading.tried heading.targets keyword heading.operands)

-- what tokens spell is written as those tokens
pub line_is : (tokens : List Token) → IfSome (line_of (heading_of tokens)) (λ line. spelled line ≡ tokens)
line_is tokens = headed tokens (heading_of tokens) (heading_of tokens).keyword refl (heading_is tokens)
