-- The tokens that lead to programs are the lines of these programs.
use Rattle.std.proofs.Common.{◌≡◌, List, [], ◌∷◌, ◌++◌, flat_map, Bool, true, false, not, ◌&&◌, if◌then◌else◌, Option, Some, None, IfSome, option_and_then, is_none, refl, sym, ap, ◌∙◌, subst, codes, append_assoc, append-nil}
use Rattle.dill_calls.specs.declared.word.Word.{Word}
use Rattle.dill_script.specs.declared.line.Keyword.{Keyword}
use Rattle.dill_script.specs.declared.script.Program.{Program}
use Rattle.dill_script.specs.Blocks.{is_empty, may_stand}
use Rattle.dill_script.specs.Contexts.{Context, opening, adding, open_behind, behind}
use Rattle.dill_script.specs.Headings.{Heading, heading_of}
use Rattle.dill_script.specs.Printing.{program_lines, script_lines}
use Rattle.dill_script.specs.Refusals.{is_version, is_some_with}
use Rattle.dill_script.specs.Statements.{Line, keyword_line, line_of}
use Rattle.dill_script.specs.Tokens.{Token, Plain, is_plain}
use Rattle.dill_script.proofs.HeadsWritten.{line_is}
use Rattle.dill_script.proofs.LinesWritten.{spelled}
use Rattle.dill_script.proofs.OperandsWritten.{is_that_plain}
use Rattle.dill_script.proofs.Tokenwise.{IsFine, Leads, said_by, after_by}
use Rattle.dill_script.proofs.Written.{written, Nested, Matches, Adds, keyword_line_matches, added, nothing_open}

not_false : (b : Bool) → not b ≡ false → b ≡ true
not_false true e = refl
not_false false e = cc

pub matches_of : (h : Heading) (w : Option Keyword) (k : Keyword) (line : Line) → option_and_then (λ keyword. keyword_line h.tried h.targets keyword h.operands) w ≡ Some line → w ≡ Some k → Matches k line
matches_of h w k line e f =
    let g : keyword_line h.tried h.targets k h.operands ≡ Some line = subst (λ o. option_and_then (λ keyword. keyword_line h.tried h.targets keyword h.operands) o ≡ Some line) f e in
    some_matches (keyword_line h.tried h.targets k h.operands) g (keyword_line_matches h.tried h.targets k h.operands)
  where
    some_matches : (o : Option Line) → o ≡ Some line → IfSome o (Matches k) → Matches k line
    some_matches o e m = subst (λ p. IfSome p (Matches k)) e m

-- a head whose keyword may stand and that spells something
head_added : (context : Context) (h : Heading) (w : Option Keyword) (o : Option Line) (list : List Token) → h.keyword ≡ w → line_of h ≡ o → is_none w ≡ false → is_none o ≡ false → is_some_with (λ keyword. not (may_stand context.open_blocks keyword)) w ≡ false → IfSome o (λ line. spelled line ≡ list) → Nested context.open_blocks → Adds context (record (record (adding context o) { open_blocks = open_behind context.open_blocks w }) { begun = true }) list
head_added context h None o list e f g i m s n = cc
head_added context h (Some k) None list e f g i m s n = cc
head_added context h (Some k) (Some line) list e f g i m s n =
    let a : Adds context (record (adding context (Some line)) { open_blocks = open_behind context.open_blocks (Some k) }) (spelled line) = added context k line n (not_false (may_stand context.open_blocks k) m) (matches_of h h.keyword k line f e) in
    record { nested = a.nested; written = a.written ∙ ap (λ x. written context ++ x ∷ []) s }

pub said_some : (context : Context) (list : List Token) → context.begun ≡ true → said_by context list ≡ Some (heading_of list)
said_some context list e = ap (λ b. if b then Some (heading_of list) else None) e

-- a line against which nothing holds adds its tokens
pub step_adds : (built : Word → Bool) (context : Context) (list : List Token) → context.begun ≡ true → Nested context.open_blocks → IsFine built context list → Adds context (after_by context list) list
step_adds built context list e n f =
    let h : Heading = heading_of list in
    let s : said_by context list ≡ Some h = said_some context list e in
    let a : Adds context (record (behind context (Some h)) { begun = true }) list = head_added context h h.keyword (line_of h) list refl refl
    (subst (λ x. is_some_with (λ heading. is_none heading.keyword) x ≡ false) s f.word)
    (subst (λ x. is_some_with (λ heading. is_none (line_of heading)) x ≡ false) s f.spells)
    (subst (λ x. is_some_with (λ keyword. not (may_stand context.open_blocks keyword)) (option_and_then (λ heading. heading.keyword) x) ≡ false) s f.stands)
    (line_is list) n in
    subst (λ x. Adds context (record (behind context x) { begun = true }) list) (sym s) a

leads_written : (built : Word → Bool) (context : Context) (lists : List (List Token)) (script : List Program) → context.begun ≡ true → Nested context.open_blocks → Leads built context lists script → written context ++ lists ≡ flat_map program_lines script
leads_written built context [] script e n l = append-nil (written context) ∙ ap (λ x. flat_map program_lines context.whole ++ x) (nothing_open context.open_blocks context.current l.0) ∙ append-nil (flat_map program_lines context.whole) ∙ ap (flat_map program_lines) l.1
leads_written built context (list ∷ rest) script e n l =
    let a : Adds context (after_by context list) list = step_adds built context list e n l.0 in
    sym (append_assoc (written context) (list ∷ []) rest) ∙ ap (λ x. x ++ rest) (sym a.written) ∙ leads_written built (after_by context list) rest script refl a.nested l.1

version_words : (a b : Token) → (is_plain (codes "dill") a && is_plain (codes "1") b) ≡ true → a ∷ b ∷ [] ≡ Plain (codes "dill") ∷ Plain (codes "1") ∷ []
version_words a b e =
    let p = both_parts (is_plain (codes "dill") a) (is_plain (codes "1") b) e in
    same_two a b (Plain (codes "dill")) (Plain (codes "1")) (sym (is_that_plain (codes "dill") a p.0)) (sym (is_that_plain (codes "1") b p.1))
  where
    both_parts : (x y : Bool) → (x && y) ≡ true → (x ≡ true) × (y ≡ true)
    both_parts true y e = (refl, e)
    both_parts false y e = cc

    same_two : (x y z w : Token) → x ≡ z → y ≡ w → x ∷ y ∷ [] ≡ z ∷ w ∷ []
    same_two x y z w e f = cc

pub version_is : (list : List Token) → is_version (Some list) ≡ true → list ≡ Plain (codes "dill") ∷ Plain (codes "1") ∷ []
version_is [] e = cc
version_is (a ∷ []) e = cc
version_is (a ∷ b ∷ []) e = version_words a b e
version_is (a ∷ b ∷ c ∷ rest) e = cc

-- from the opening on: `dill 1`, and the lines of the programs
pub leads_lines : (built : Word → Bool) (lists : List (List Token)) (script : List Program) → is_empty lists ≡ false → Leads built opening lists script → lists ≡ script_lines script
leads_lines built [] script e l = cc
leads_lines built (list ∷ rest) script e l = same_lists list (Plain (codes "dill") ∷ Plain (codes "1") ∷ []) rest (flat_map program_lines script) (version_is list (not_false (is_version (Some list)) l.0.version)) (leads_written built (after_by opening list) rest script refl tt l.1)
  where
    same_lists : (x y : List Token) (xs ys : List (List Token)) → x ≡ y → xs ≡ ys → x ∷ xs ≡ y ∷ ys
    same_lists x y xs ys e f = cc
