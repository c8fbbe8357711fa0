-- What the lines of a text start, and the first of these that isn't there.
use Rattle.std.proofs.Common.{◌≡◌, ◌∙◌, ℕ, ◌+◌, List, [], ◌∷◌, ◌++◌, Bool, true, false, not, ◌&&◌, cond, find, Option, Some, None, is_none, option_and_then, option_map, unwrap_or, Ok, codes, refl, sym, ap}
use Rattle.std.proofs.lemmas.Slice.Eq.{bytes_eq-Decides}
use Rattle.std.specs.List.{list_any, list_all}
use Rattle.dill_script.specs.declared.refusal.Reason.{Reason}
use Rattle.dill_script.specs.declared.refusal.Reason.TheVariants.{NoVersion, BadByte, BadText}
use Rattle.dill_script.specs.declared.script.Program.{Program}
use Rattle.dill_script.specs.Headings.{heading_of}
use Rattle.dill_script.specs.Lines.{has_tokens, is_line_byte}
use Rattle.dill_script.specs.Reading.{Reading, started_by, takes, here_or, first_without, with_programs, linked}
use Rattle.dill_script.specs.Refusals.{first_reason, is_some_with, is_version}
use Rattle.dill_script.specs.Statements.{line_of}
use Rattle.dill_script.specs.Tokens.{Token, Plain, Text, is_plain, tokens}
use Rattle.dill_script.proofs.Linking.{blank_tokens}
use Rattle.relay_reader.specs.declared.starts.Start.{Start}
use Rattle.relay_reader.specs.Parts.{byte_faults}
use Rattle.relay_reader.specs.Starts.{start_of, start_at, starts_from, is_missing, first_missing}

-- what a line of these tokens starts
abbrev pub start_by : List Token → Option (List ℕ × ℕ)
start_by list = option_and_then started_by (line_of (heading_of list))

pub start_is : (line : List ℕ) (found : List Token) → tokens line ≡ Some found → start_by found ≡ start_of line
start_is line found some = ap (λ o. start_by (unwrap_or o [])) (sym some)

front_false : (b : Bool) (reason : Reason) (rest : List (Bool × Reason)) → first_reason ((b, reason) ∷ rest) ≡ None → b ≡ false
front_false true reason rest e = cc
front_false false reason rest e = refl

version_found : (begun some version : Bool) → (begun && some) ≡ false → some ≡ true → (not begun && (some && not version)) ≡ false → version ≡ true
version_found true true version e f g = cc
version_found true false version e f g = cc
version_found false true true e f g = refl
version_found false true false e f g = cc
version_found false false version e f g = cc

plain_is : (word : List ℕ) (token : Token) → is_plain word token ≡ true → token ≡ Plain word
plain_is word (Plain bytes) e = ap Plain ((bytes_eq-Decides bytes word).0 e)
plain_is word (Text bytes) e = cc

both_true : (a b : Bool) → (a && b) ≡ true → (a ≡ true) × (b ≡ true)
both_true true b e = (refl, e)
both_true false b e = cc

same_two : (a b c d : Token) → a ≡ c → b ≡ d → a ∷ b ∷ [] ≡ c ∷ d ∷ []
same_two a b c d e f = cc

version_words : (list : List Token) → is_version (Some list) ≡ true → list ≡ Plain (codes "dill") ∷ Plain (codes "1") ∷ []
version_words [] e = cc
version_words (a ∷ []) e = cc
version_words (a ∷ b ∷ []) e =
    let p = both_true (is_plain (codes "dill") a) (is_plain (codes "1") b) e in
    same_two a b (Plain (codes "dill")) (Plain (codes "1")) (plain_is (codes "dill") a p.0) (plain_is (codes "1") b p.1)
version_words (a ∷ b ∷ c ∷ rest) e = cc

-- a line that belongs to no program starts none: it has no tokens, or is the first that has
pub no_start : (begun : Bool) (line : List ℕ) (found : List Token) → tokens line ≡ Some found → (begun && has_tokens line) ≡ false → first_reason (byte_faults begun line) ≡ None → start_of line ≡ None
no_start begun line found some apart none = by_tokens (has_tokens line) refl
  where
    by_tokens : (b : Bool) → has_tokens line ≡ b → start_of line ≡ None
    by_tokens false e = ap (λ o. start_by (unwrap_or o [])) (blank_tokens line e)
    by_tokens true e =
        let right : (not begun && (has_tokens line && not (is_version (tokens line)))) ≡ false = front_false (not begun && (has_tokens line && not (is_version (tokens line)))) NoVersion ((not (list_all is_line_byte line), BadByte) ∷ (is_none (tokens line), BadText) ∷ []) none in
        let version : is_version (tokens line) ≡ true = version_found begun (has_tokens line) (is_version (tokens line)) apart e right in
        let words = version_words found (ap is_version (sym some) ∙ version) in
        sym (start_is line found some) ∙ ap start_by words

missing_by : (b : Bool) (start : Start) (rest : Option Start) (further : Option ℕ) → option_map (λ x. x.line) rest ≡ further → option_map (λ x. x.line) (cond b (Some start) rest) ≡ here_or start.line b further
missing_by true start rest further e = refl
missing_by false start rest further e = e

missing_at : (script : List Program) (number : ℕ) (o : Option (List ℕ × ℕ)) (rest : List Start) (further : Option ℕ) → first_missing script rest ≡ further → first_missing script (start_at number o ++ rest) ≡ here_or number (is_some_with (λ start. not (list_any (takes start) script)) o) further
missing_at script number None rest further e = e
missing_at script number (Some (name, args)) rest further e =
    missing_by (not (list_any (takes (name, args)) script)) (record { line = number; name = name; args = args }) (find (is_missing script) rest) further e

-- the first start of a program that isn't there stands in the first line that starts one
pub missing_is : (script : List Program) (number : ℕ) (lines : List (List ℕ)) → first_missing script (starts_from number lines) ≡ first_without script number lines
missing_is script number [] = refl
missing_is script number (line ∷ rest) = missing_at script number (start_of line) (starts_from (number + 1) rest) (first_without script (number + 1) rest) (missing_is script (number + 1) rest)

-- linking by what is started
pub linked_by : (lines : List (List ℕ)) (reading : Reading) (script : List Program) (starts : List Start) → reading ≡ Ok script → starts ≡ starts_from 1 lines → linked lines reading ≡ with_programs (first_missing script starts) script
linked_by lines reading script starts is all =
    ap (linked lines) is ∙ ap (λ o. with_programs o script) (sym (missing_is script 1 lines) ∙ ap (first_missing script) (sym all))
