-- No two programs of what is read have one name.
use Rattle.std.proofs.Common.{◌≡◌, ℕ, List, [], ◌∷◌, ◌++◌, Bool, true, false, not, ◌&&◌, ◌||◌, Option, Some, None, option_and_then, is_none, bytes_eq, refl, sym, ap, subst}
use Rattle.std.proofs.lemmas.Bool.{and_parts, or_parts, or_from}
use Rattle.std.specs.List.{list_any}
use Rattle.dill_calls.specs.declared.word.Word.{Word}
use Rattle.dill_script.specs.declared.line.Block.{Block}
use Rattle.dill_script.specs.declared.line.Block.TheVariants as blocks
use Rattle.dill_script.specs.declared.line.Keyword.{Keyword}
use Rattle.dill_script.specs.declared.line.Keyword.TheVariants as keywords
use Rattle.dill_script.specs.declared.script.Program.{Program}
use Rattle.dill_script.specs.Blocks.{is_empty, may_stand, outside, blocks_behind}
use Rattle.dill_script.specs.Contexts.{Context, opening, adding, ending, open_behind, behind}
use Rattle.dill_script.specs.Headings.{Heading, heading_of}
use Rattle.dill_script.specs.Lines.{lines_of}
use Rattle.dill_script.specs.Refusals.{has_name, names_again, is_some_with}
use Rattle.dill_script.specs.Spelling.{spoken, are_apart, ReadsApart}
use Rattle.dill_script.specs.Statements.{Line, Opens, Ends, Says, line_of}
use Rattle.dill_script.specs.Tokens.{Token}
use Rattle.dill_script.proofs.Judging.{leads_of}
use Rattle.dill_script.proofs.Linking.{IsRead, is_read}
use Rattle.dill_script.proofs.Spoken.{matches_of, step_adds, said_some}
use Rattle.dill_script.proofs.Tokenwise.{IsFine, Leads, said_by, after_by}
use Rattle.dill_script.proofs.PlainsWritten.{bytes_same}
use Rattle.dill_script.proofs.Written.{Nested, Matches, Adds, StaysOpen, says_open}

not_false : (b : Bool) → not b ≡ false → b ≡ true
not_false true e = refl
not_false false e = cc

true_not : (b : Bool) → not b ≡ true → b ≡ false
true_not true e = cc
true_not false e = refl

both : (a b : Bool) → a ≡ false → b ≡ true → (not a && b) ≡ true
both a b e f = rw e f

-- a name isn't another's, whichever is asked
turned : (xs ys : List ℕ) (b : Bool) → bytes_eq ys xs ≡ b → bytes_eq xs ys ≡ false → b ≡ false
turned xs ys false e f = refl
turned xs ys true e f =
    let same : ys ≡ xs = bytes_same ys xs e in
    let g : bytes_eq xs xs ≡ false = subst (λ zs. bytes_eq xs zs ≡ false) same f in
    let h : bytes_eq ys ys ≡ true = subst (λ zs. bytes_eq ys zs ≡ true) (sym same) e in
    let k : bytes_eq xs xs ≡ true = subst (λ zs. bytes_eq zs zs ≡ true) same h in
    cc

-- a program behind others of which none has its name
none_more : (name : List ℕ) (rest : List Program) (program : Program) → list_any (has_name name) rest ≡ false → has_name name program ≡ false → list_any (has_name name) (rest ++ program ∷ []) ≡ false
none_more name [] program e f = or_from (has_name name program) false f refl
none_more name (first ∷ rest) program e f =
    let p = or_parts (has_name name first) (list_any (has_name name) rest) e in
    or_from (has_name name first) (list_any (has_name name) (rest ++ program ∷ [])) p.0 (none_more name rest program p.1 f)

apart_more : (programs : List Program) (program : Program) → are_apart programs ≡ true → list_any (has_name program.name) programs ≡ false → are_apart (programs ++ program ∷ []) ≡ true
apart_more [] program e f = refl
apart_more (first ∷ rest) program e f =
    let p = and_parts (not (list_any (has_name first.name) rest)) (are_apart rest) e in
    let q = or_parts (has_name program.name first) (list_any (has_name program.name) rest) f in
    both (list_any (has_name first.name) (rest ++ program ∷ [])) (are_apart (rest ++ program ∷ [])) (none_more first.name rest program (true_not (list_any (has_name first.name) rest) p.0) (turned first.name program.name (has_name first.name program) refl q.0)) (apart_more rest program p.1 q.1)

-- the programs so far have names of their own, and so has the one that is open
record Apart (context : Context) : Type 0 where
  whole : are_apart context.whole ≡ true
  current : is_empty context.open_blocks ≡ false → list_any (has_name context.current.name) context.whole ≡ false

ends_apart : (context : Context) (open_blocks : List Block) → context.open_blocks ≡ open_blocks → Nested open_blocks → not (is_empty open_blocks) ≡ true → Apart context → Apart (record (ending context open_blocks) { open_blocks = outside open_blocks })
ends_apart context [] e n f a = cc
ends_apart context (blocks.Program ∷ outer) e n f a = record { whole = apart_more context.whole context.current a.whole (a.current (ap is_empty e)); current = λ x. let y : true ≡ false = subst (λ o. is_empty o ≡ false) n x in cc }
ends_apart context (blocks.Finally ∷ outer) e n f a = record { whole = apart_more context.whole context.current a.whole (a.current (ap is_empty e)); current = λ x. let y : true ≡ false = subst (λ o. is_empty o ≡ false) n x in cc }
ends_apart context (blocks.If ∷ outer) e n f a = record { whole = a.whole; current = λ x. a.current (ap is_empty e) }
ends_apart context (blocks.Else ∷ outer) e n f a = record { whole = a.whole; current = λ x. a.current (ap is_empty e) }
ends_apart context (blocks.Loop ∷ outer) e n f a = record { whole = a.whole; current = λ x. a.current (ap is_empty e) }

-- a line of a keyword that may stand, and that names no program again
line_apart : (context : Context) (k : Keyword) (line : Line) → Nested context.open_blocks → may_stand context.open_blocks k ≡ true → Matches k line → names_again context.whole line ≡ false → Apart context → Apart (record (adding context (Some line)) { open_blocks = blocks_behind context.open_blocks k })
line_apart context keywords.Program (Opens name params) n e m f a = record { whole = a.whole; current = λ x. f }
line_apart context keywords.Program Ends n e m f a = absurd m
line_apart context keywords.Program (Says s) n e m f a = absurd m
line_apart context keywords.End (Opens name params) n e m f a = absurd m
line_apart context keywords.End Ends n e m f a = ends_apart context context.open_blocks refl n e a
line_apart context keywords.End (Says s) n e m f a = absurd m
line_apart context k (Says s) n e m f a =
    let o : StaysOpen context.open_blocks (blocks_behind context.open_blocks k) = says_open context.open_blocks k s n e m in
    record { whole = a.whole; current = λ x. a.current o.before }
line_apart context _ (Opens name params) n e m f a = absurd m
line_apart context _ Ends n e m f a = absurd m

head_apart : (context : Context) (h : Heading) (w : Option Keyword) (o : Option Line) → h.keyword ≡ w → line_of h ≡ o → is_none w ≡ false → is_none o ≡ false → is_some_with (λ keyword. not (may_stand context.open_blocks keyword)) w ≡ false → is_some_with (names_again context.whole) o ≡ false → Nested context.open_blocks → Apart context → Apart (record (record (adding context o) { open_blocks = open_behind context.open_blocks w }) { begun = true })
head_apart context h None o e f g i m s n a = cc
head_apart context h (Some k) None e f g i m s n a = cc
head_apart context h (Some k) (Some line) e f g i m s n a =
    let b : Apart (record (adding context (Some line)) { open_blocks = blocks_behind context.open_blocks k }) = line_apart context k line n (not_false (may_stand context.open_blocks k) m) (matches_of h h.keyword k line f e) s a in
    record { whole = b.whole; current = b.current }

step_apart : (built : Word → Bool) (context : Context) (list : List Token) → context.begun ≡ true → Nested context.open_blocks → IsFine built context list → Apart context → Apart (after_by context list)
step_apart built context list e n f a =
    let h : Heading = heading_of list in
    let s : said_by context list ≡ Some h = said_some context list e in
    let b : Apart (record (behind context (Some h)) { begun = true }) = head_apart context h h.keyword (line_of h) refl refl
    (subst (λ x. is_some_with (λ heading. is_none heading.keyword) x ≡ false) s f.word)
    (subst (λ x. is_some_with (λ heading. is_none (line_of heading)) x ≡ false) s f.spells)
    (subst (λ x. is_some_with (λ keyword. not (may_stand context.open_blocks keyword)) (option_and_then (λ heading. heading.keyword) x) ≡ false) s f.stands)
    (subst (λ x. is_some_with (names_again context.whole) (option_and_then line_of x) ≡ false) s f.name) n a in
    subst (λ x. Apart (record (behind context x) { begun = true })) (sym s) b

leads_apart : (built : Word → Bool) (context : Context) (lists : List (List Token)) (script : List Program) → context.begun ≡ true → Nested context.open_blocks → Apart context → Leads built context lists script → are_apart script ≡ true
leads_apart built context [] script e n a l = subst (λ programs. are_apart programs ≡ true) l.1 a.whole
leads_apart built context (list ∷ rest) script e n a l =
    let d : Adds context (after_by context list) list = step_adds built context list e n l.0 in
    leads_apart built (after_by context list) rest script refl d.nested (step_apart built context list e n l.0 a) l.1

-- from the opening on: the first line adds nothing
first_apart : (built : Word → Bool) (lists : List (List Token)) (script : List Program) → Leads built opening lists script → are_apart script ≡ true
first_apart built [] script l = subst (λ programs. are_apart programs ≡ true) l.1 refl
first_apart built (list ∷ rest) script l = leads_apart built (after_by opening list) rest script refl tt (record { whole = refl; current = λ x. refl }) l.1

pub reads_apart : ReadsApart
reads_apart built text script e =
    let r : IsRead built text script = is_read built text script e in
    let l = leads_of built 1 opening (lines_of text) script (λ x. refl) r.lines in
    first_apart built (spoken (lines_of text)) script l.1
