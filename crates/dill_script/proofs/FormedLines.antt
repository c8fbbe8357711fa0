-- Each statement of what is read has the form that its keyword asks for.
use Rattle.std.proofs.Common.{◌≡◌, ℕ, ◌==◌, List, [], ◌∷◌, Bool, true, false, ◌&&◌, cond, if◌then◌else◌, find, Option, Some, None, IfSome, option_map, option_and_then, bytes_eq, refl, codes}
use Rattle.std.proofs.lemmas.Bool.{and_from, and_parts}
use Rattle.std.specs.List.{list_all}
use Rattle.dill_calls.specs.declared.word.Word.{Word}
use Rattle.dill_script.specs.declared.line.Keyword.{Keyword}
use Rattle.dill_script.specs.declared.line.Keyword.TheVariants as keywords
use Rattle.dill_script.specs.declared.line.Register.{Register}
use Rattle.dill_script.specs.declared.line.Register.TheVariants as registers
use Rattle.dill_script.specs.declared.statement.Statement.{Statement}
use Rattle.dill_script.specs.declared.statement.Statement.TheVariants as statements
use Rattle.dill_script.specs.Fitting.{is_call_word, are_kinds, may_hold, is_formed}
use Rattle.dill_script.specs.Headings.{Heading, keyword_text, all_keywords, keyword_of, with_target, up_to_equals, with_keyword, with_targets, heading_of}
use Rattle.dill_script.specs.Lines.{lines_of}
use Rattle.dill_script.specs.Operands.{plain_in, name_of, register_in, number_register, bytes_register, num_of, bytes_of, operands_of}
use Rattle.dill_script.specs.Numbers.{named, only_if, number_up_to, register_of, errno_of}
use Rattle.dill_script.specs.Spelling.{spoken, ReadsFormed}
use Rattle.dill_script.specs.Statements.{Line, Opens, Ends, Says, both, set_at, with_two, with_none, params_fit, program_of, fail_of, loop_of, cond_of, dest_at, call_of_line, plain_line, keyword_line, line_of}
use Rattle.dill_script.specs.Table.{kinds_of, rest_kind}
use Rattle.dill_script.specs.Tokens.{Token, is_plain}
use Rattle.dill_script.proofs.Formed.{always, mapped, number_small, is_small, operands_fit, dest_at_fits}
use Rattle.dill_script.proofs.LinesWritten.{two_is, none_is}
use Rattle.dill_script.proofs.Saying.{says_well, line_says, reads_all}
use Rattle.dill_script.proofs.Options.{if_map, if_then, if_test, if_only, if_both}

-- a line whose statement has its form
abbrev Formed : Line → Type 0
Formed line = says_well is_formed (Some line) ≡ true

-- the keyword of a line is none that only traces know
abbrev is_well : Keyword → Bool
is_well (keywords.Call word) = is_call_word word
is_well _ = true

-- what is found among such as pass a test passes it
found : {X : Type 0} (test : X → Bool) (x : X) (o : Option X) (b : Bool) → test x ≡ true → IfSome o (λ y. test y ≡ true) → IfSome (cond b (Some x) o) (λ y. test y ≡ true)
found test x o true e h = e
found test x o false e h = h

find_among : {X : Type 0} (p test : X → Bool) (xs : List X) → list_all test xs ≡ true → IfSome (find p xs) (λ y. test y ≡ true)
find_among p test [] e = tt
find_among p test (x ∷ xs) e =
    let h = and_parts (test x) (list_all test xs) e in
    found test x (find p xs) (p x) h.0 (find_among p test xs h.1)

keyword_well : (token : Token) → IfSome (keyword_of token) (λ k. is_well k ≡ true)
keyword_well token = if_then (λ k. is_well k ≡ true) (named keyword_text all_keywords) (plain_in token) (always (λ word. IfSome (named keyword_text all_keywords word) (λ k. is_well k ≡ true)) (plain_in token) (λ word. find_among (λ k. bytes_eq (keyword_text k) word) is_well all_keywords refl))

-- the head has such a keyword, and registers that there are
record IsHead (heading : Heading) : Type 0 where
  word : IfSome heading.keyword (λ k. is_well k ≡ true)
  targets : list_all is_small heading.targets ≡ true

register_small : (word : List ℕ) → IfSome (register_of word) (λ r. is_small r ≡ true)
register_small [] = tt
register_small (letter ∷ rest) = if_test (λ r. is_small r ≡ true) (letter == 110) (option_map registers.Number (number_up_to 15 rest)) (if letter == 98 then option_map registers.Bytes (number_up_to 15 rest) else None)
    (λ e. if_map (λ r. is_small r ≡ true) registers.Number (number_up_to 15 rest) (number_small 15 rest))
    (λ e. if_test (λ r. is_small r ≡ true) (letter == 98) (option_map registers.Bytes (number_up_to 15 rest)) None (λ f. if_map (λ r. is_small r ≡ true) registers.Bytes (number_up_to 15 rest) (number_small 15 rest)) (λ f. tt))

target_small : (token : Token) → IfSome (register_in token) (λ r. is_small r ≡ true)
target_small token = if_then (λ r. is_small r ≡ true) register_of (plain_in token) (always (λ word. IfSome (register_of word) (λ r. is_small r ≡ true)) (plain_in token) register_small)

abbrev AreSmall : List Register × List Token → Type 0
AreSmall found = list_all is_small found.0 ≡ true

with_target_small : (o : Option Register) (p : Option (List Register × List Token)) → IfSome o (λ r. is_small r ≡ true) → IfSome p AreSmall → IfSome (with_target o p) AreSmall
with_target_small None None h k = tt
with_target_small None (Some behind) h k = tt
with_target_small (Some register) None h k = tt
with_target_small (Some register) (Some (targets, behind)) h k = and_from (is_small register) (list_all is_small targets) h k

targets_small : (tokens : List Token) → IfSome (up_to_equals tokens) AreSmall
targets_small [] = tt
targets_small (token ∷ rest) = if_test AreSmall (is_plain (codes "=") token) (Some ([], rest)) (with_target (register_in token) (up_to_equals rest)) (λ e. refl) (λ e. with_target_small (register_in token) (up_to_equals rest) (target_small token) (targets_small rest))

with_keyword_well : (tried : Bool) (targets : List Register) (tokens : List Token) → list_all is_small targets ≡ true → IsHead (with_keyword tried targets tokens)
with_keyword_well tried targets [] e = record { word = tt; targets = e }
with_keyword_well tried targets (token ∷ rest) e = record { word = keyword_well token; targets = e }

with_targets_well : (tried : Bool) (tokens : List Token) (o : Option (List Register × List Token)) → IfSome o AreSmall → IsHead (with_targets tried tokens o)
with_targets_well tried tokens (Some (register ∷ targets, behind)) h = with_keyword_well tried (register ∷ targets) behind h
with_targets_well tried tokens (Some ([], behind)) h = with_keyword_well tried [] tokens refl
with_targets_well tried tokens None h = with_keyword_well tried [] tokens refl

either_head : (b : Bool) (first second : Heading) → IsHead first → IsHead second → IsHead (if b then first else second)
either_head true first second h k = h
either_head false first second h k = k

heading_well : (tokens : List Token) → IsHead (heading_of tokens)
heading_well [] = record { word = tt; targets = refl }
heading_well (token ∷ rest) = either_head (is_plain (codes "try") token) (with_targets true rest (up_to_equals rest)) (with_targets false (token ∷ rest) (up_to_equals (token ∷ rest))) (with_targets_well true rest (up_to_equals rest) (targets_small rest)) (with_targets_well false (token ∷ rest) (up_to_equals (token ∷ rest)) (targets_small (token ∷ rest)))

-- a statement made of two parts
paired : {X Y : Type 0} (make : X → Y → Statement) (o : Option X) (p : Option Y) → ((x : X) (y : Y) → is_formed (make x y) ≡ true) → IfSome (both make o p) (λ statement. is_formed statement ≡ true)
paired {X} {Y} make o p h = if_both (λ (x : X). Unit {0}) (λ (y : Y). Unit {0}) (λ statement. is_formed statement ≡ true) make o p (λ x y e f. h x y) (always (λ x. Unit {0}) o (λ x. tt)) (always (λ y. Unit {0}) p (λ y. tt))

-- the line of a statement that is formed
says : (o : Option Statement) → IfSome o (λ statement. is_formed statement ≡ true) → IfSome (option_map Says o) Formed
says o h = if_map Formed Says o h

call_formed : (tried : Bool) (targets : List Register) (word : Word) (tokens : List Token) → is_call_word word ≡ true → list_all is_small targets ≡ true → IfSome (call_of_line tried word targets tokens) (λ statement. is_formed statement ≡ true)
call_formed tried targets word tokens e t = if_both (λ dest. may_hold word dest ≡ true) (λ list. are_kinds (kinds_of word) (rest_kind word) list ≡ true) (λ statement. is_formed statement ≡ true) (λ dest operands. statements.Call tried dest (record { word = word; operands = operands })) (dest_at word targets) (operands_of (kinds_of word) (rest_kind word) tokens)
    (λ dest list f g. and_from (is_call_word word && are_kinds (kinds_of word) (rest_kind word) list) (may_hold word dest) (and_from (is_call_word word) (are_kinds (kinds_of word) (rest_kind word) list) e g) f) (dest_at_fits word targets t) (operands_fit (kinds_of word) (rest_kind word) tokens)

fail_formed : (tokens : List Token) → IfSome (fail_of tokens) (λ statement. is_formed statement ≡ true)
fail_formed (token ∷ []) = mapped (λ statement. is_formed statement ≡ true) statements.Fail (option_and_then errno_of (plain_in token)) (λ x. refl)
fail_formed _ = tt

loop_formed : (tokens : List Token) → IfSome (loop_of tokens) (λ statement. is_formed statement ≡ true)
loop_formed [] = refl
loop_formed (token ∷ []) = mapped (λ statement. is_formed statement ≡ true) (λ rounds. statements.Loop (Some rounds)) (num_of token) (λ x. refl)
loop_formed _ = tt

two_formed : (f : Token → Token → Option Statement) (tokens : List Token) → ((a b : Token) → IfSome (f a b) (λ statement. is_formed statement ≡ true)) → IfSome (option_map Says (with_two f tokens)) Formed
two_formed f tokens h = says (with_two f tokens) (two_is (λ list statement. is_formed statement ≡ true) f tokens h)

none_formed : (line : Line) (tokens : List Token) → Formed line → IfSome (with_none line tokens) Formed
none_formed line tokens h = none_is (λ list. Formed) line tokens h

set_formed : (tried : Bool) (value : Token) (register : Register) → IfSome (set_at tried register value) (λ statement. is_formed statement ≡ true)
set_formed true value (registers.Number place) = tt
set_formed false value (registers.Number place) = mapped (λ statement. is_formed statement ≡ true) (statements.Set place) (num_of value) (λ x. refl)
set_formed tried value (registers.Bytes place) = mapped (λ statement. is_formed statement ≡ true) (statements.Keep tried place) (bytes_of value) (λ x. refl)

set_line_formed : (tried : Bool) (target value : Token) → IfSome (option_and_then (λ register. set_at tried register value) (register_in target)) (λ statement. is_formed statement ≡ true)
set_line_formed tried target value = if_then (λ statement. is_formed statement ≡ true) (λ register. set_at tried register value) (register_in target) (always (λ register. IfSome (set_at tried register value) (λ statement. is_formed statement ≡ true)) (register_in target) (set_formed tried value))

program_formed : (a b : Token) → IfSome (program_of a b) Formed
program_formed a b = if_then Formed (λ name. option_and_then (λ count. only_if (params_fit name count) (Opens name count)) (option_and_then (number_up_to 16) (plain_in b))) (name_of a)
    (always (λ name. IfSome (option_and_then (λ count. only_if (params_fit name count) (Opens name count)) (option_and_then (number_up_to 16) (plain_in b))) Formed) (name_of a)
    (λ name. if_then Formed (λ count. only_if (params_fit name count) (Opens name count)) (option_and_then (number_up_to 16) (plain_in b))
    (always (λ count. IfSome (only_if (params_fit name count) (Opens name count)) Formed) (option_and_then (number_up_to 16) (plain_in b)) (λ count. if_only Formed (params_fit name count) (Opens name count) (λ e. refl)))))

plain_formed : (k : Keyword) (tokens : List Token) → IfSome (plain_line k tokens) Formed
plain_formed keywords.Program tokens = two_is (λ list. Formed) program_of tokens program_formed
plain_formed keywords.Finally tokens = none_formed (Says statements.Finally) tokens refl
plain_formed keywords.Else tokens = none_formed (Says statements.Else) tokens refl
plain_formed keywords.End tokens = none_formed Ends tokens refl
plain_formed keywords.Add tokens = two_formed (λ place value. both statements.Add (number_register place) (num_of value)) tokens (λ a b. paired statements.Add (number_register a) (num_of b) (λ x y. refl))
plain_formed keywords.Sub tokens = two_formed (λ place value. both statements.Sub (number_register place) (num_of value)) tokens (λ a b. paired statements.Sub (number_register a) (num_of b) (λ x y. refl))
plain_formed keywords.Len tokens = two_formed (λ place source. both statements.Len (number_register place) (bytes_register source)) tokens (λ a b. paired statements.Len (number_register a) (bytes_register b) (λ x y. refl))
plain_formed keywords.If tokens = mapped Formed (λ cond. Says (statements.If cond)) (cond_of tokens) (λ x. refl)
plain_formed keywords.Loop tokens = says (loop_of tokens) (loop_formed tokens)
plain_formed keywords.Break tokens = none_formed (Says statements.Break) tokens refl
plain_formed keywords.Return tokens = none_formed (Says statements.Return) tokens refl
plain_formed keywords.Fail tokens = says (fail_of tokens) (fail_formed tokens)
plain_formed _ tokens = tt

keyword_line_formed : (tried : Bool) (targets : List Register) (k : Keyword) (tokens : List Token) → is_well k ≡ true → list_all is_small targets ≡ true → IfSome (keyword_line tried targets k tokens) Formed
keyword_line_formed tried targets (keywords.Call word) tokens e t = says (call_of_line tried word targets tokens) (call_formed tried targets word tokens e t)
keyword_line_formed tried [] keywords.Set tokens e t = two_formed (λ target value. option_and_then (λ register. set_at tried register value) (register_in target)) tokens (set_line_formed tried)
keyword_line_formed tried [] keywords.Join tokens e t = two_formed (λ place value. both (statements.Join tried) (bytes_register place) (bytes_of value)) tokens (λ a b. paired (statements.Join tried) (bytes_register a) (bytes_of b) (λ x y. refl))
keyword_line_formed false [] k tokens e t = plain_formed k tokens
keyword_line_formed _ _ _ _ e t = tt

headed : (heading : Heading) (o : Option Keyword) → IfSome o (λ k. is_well k ≡ true) → list_all is_small heading.targets ≡ true → IfSome (option_and_then (λ k. keyword_line heading.tried heading.targets k heading.operands) o) Formed
headed heading None h t = tt
headed heading (Some k) h t = keyword_line_formed heading.tried heading.targets k heading.operands h t

line_formed : (list : List Token) → line_says is_formed list ≡ true
line_formed list = of_line (line_of (heading_of list)) (headed (heading_of list) (heading_of list).keyword (heading_well list).word (heading_well list).targets)
  where
    of_line : (o : Option Line) → IfSome o Formed → says_well is_formed o ≡ true
    of_line None h = refl
    of_line (Some line) h = h

lines_formed : (lists : List (List Token)) → list_all (line_says is_formed) lists ≡ true
lines_formed [] = refl
lines_formed (list ∷ rest) = and_from (line_says is_formed list) (list_all (line_says is_formed) rest) (line_formed list) (lines_formed rest)

pub reads_formed : ReadsFormed
reads_formed built text script e = reads_all is_formed (record { end_if = refl; end_loop = refl }) built text script e (lines_formed (spoken (lines_of text)))
