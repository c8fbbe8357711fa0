-- What is read is nested: each of its statements stands where it may, and its loops are at most four deep.
use Rattle.std.proofs.Common.{◌≡◌, ℕ, ◌+◌, List, [], ◌∷◌, ◌++◌, length, cond, Bool, true, false, not, ◌||◌, nat_lt, Option, Some, None, IfSome, option_and_then, is_none, refl, sym, ap, ◌∙◌, subst, arith}
use Rattle.std.proofs.lemmas.Bool.{and_from, and_parts, or_parts}
use Rattle.std.proofs.lemmas.Bool.Decides.{nat_tests}
use Rattle.std.proofs.lemmas.List.Sums.{sum_by-cons}
use Rattle.std.specs.List.{list_all}
use Rattle.dill_calls.specs.declared.word.Word.{Word}
use Rattle.dill_script.specs.declared.line.Block.{Block}
use Rattle.dill_script.specs.declared.line.Block.TheVariants as blocks
use Rattle.dill_script.specs.declared.line.Keyword.{Keyword}
use Rattle.dill_script.specs.declared.script.Program.{Program}
use Rattle.dill_script.specs.declared.statement.Statement.{Statement}
use Rattle.dill_script.specs.declared.statement.Statement.TheVariants as statements
use Rattle.dill_script.specs.Blocks.{is_empty, is_loop, may_stand, outside, blocks_behind, loops}
use Rattle.dill_script.specs.Contexts.{Context, opening, places, saying, ending, adding, open_behind, behind}
use Rattle.dill_script.specs.Headings.{Heading, heading_of}
use Rattle.dill_script.specs.Lines.{lines_of}
use Rattle.dill_script.specs.Nesting.{blocks_after, stands, nests, blocks_behind_all, in_program, is_nested, ReadsNested}
use Rattle.dill_script.specs.Refusals.{is_some_with, programs_begun, passes_limit}
use Rattle.dill_script.specs.Spelling.{spoken}
use Rattle.dill_script.specs.Statements.{Line, Opens, Ends, Says, line_of}
use Rattle.dill_script.specs.Tokens.{Token}
use Rattle.dill_script.proofs.Judging.{leads_of}
use Rattle.dill_script.proofs.Keywords.{keyword_in, keyword_at, line_by}
use Rattle.dill_script.proofs.Linking.{IsRead, is_read}
use Rattle.dill_script.proofs.Saying.{all_push}
use Rattle.dill_script.proofs.Spoken.{step_adds, said_some}
use Rattle.dill_script.proofs.Tokenwise.{IsFine, Leads, said_by, after_by}
use Rattle.dill_script.proofs.Written.{Nested, Adds, StaysOpen, spelled_matches, says_open}

-- one statement more
nests_more : (open_blocks : List Block) (list : List Statement) (statement : Statement) → nests open_blocks list ≡ true → stands (blocks_behind_all open_blocks list) statement ≡ true → nests open_blocks (list ++ statement ∷ []) ≡ true
nests_more open_blocks [] statement n s = and_from (stands open_blocks statement) true s refl
nests_more open_blocks (first ∷ rest) statement n s =
    let p = and_parts (stands open_blocks first) (nests (blocks_after open_blocks first) rest) n in
    and_from (stands open_blocks first) (nests (blocks_after open_blocks first) (rest ++ statement ∷ [])) p.0 (nests_more (blocks_after open_blocks first) rest statement p.1 s)

behind_more : (open_blocks : List Block) (list : List Statement) (statement : Statement) → blocks_behind_all open_blocks (list ++ statement ∷ []) ≡ blocks_after (blocks_behind_all open_blocks list) statement
behind_more open_blocks [] statement = refl
behind_more open_blocks (first ∷ rest) statement = behind_more (blocks_after open_blocks first) rest statement

-- the open program as far as it has come: its open blocks are those behind its statements
abbrev Comes : List Block → List Statement → Type 0
Comes [] list = Unit {0}
Comes (block ∷ outer) list = (nests in_program list ≡ true) × (blocks_behind_all in_program list ≡ block ∷ outer)

comes_more : (open_blocks behind_them : List Block) (list : List Statement) (statement : Statement) → is_empty open_blocks ≡ false → stands open_blocks statement ≡ true → behind_them ≡ blocks_after open_blocks statement → Comes open_blocks list → Comes behind_them (list ++ statement ∷ [])
comes_more [] behind_them list statement f s e c = cc
comes_more (block ∷ outer) [] list statement f s e c = tt
comes_more (block ∷ outer) (inner ∷ rest) list statement f s e c = (
  nests_more in_program list statement c.0 (subst (λ o. stands o statement ≡ true) (sym c.1) s),
  behind_more in_program list statement ∙ ap (λ o. blocks_after o statement) c.1 ∙ sym e,
)

-- the programs so far are nested
record AllNest (context : Context) : Type 0 where
  whole : list_all is_nested context.whole ≡ true
  current : Comes context.open_blocks context.current.statements

-- the program that is open, where it is whole
comes_whole : (open_blocks : List Block) (program : Program) → is_empty open_blocks ≡ false → Comes open_blocks program.statements → is_nested program ≡ true
comes_whole [] program f c = cc
comes_whole (block ∷ outer) program f c = c.0

-- an `end`
ends_nest : (context : Context) (open_blocks : List Block) → context.open_blocks ≡ open_blocks → Nested open_blocks → not (is_empty open_blocks) ≡ true → AllNest context → AllNest (record (ending context open_blocks) { open_blocks = outside open_blocks })
ends_nest context [] e n f a = cc
ends_nest context (blocks.If ∷ outer) e n f a = record { whole = a.whole; current = comes_more (blocks.If ∷ outer) outer context.current.statements statements.EndIf refl refl refl (subst (λ o. Comes o context.current.statements) e a.current) }
ends_nest context (blocks.Else ∷ outer) e n f a = record { whole = a.whole; current = comes_more (blocks.Else ∷ outer) outer context.current.statements statements.EndIf refl refl refl (subst (λ o. Comes o context.current.statements) e a.current) }
ends_nest context (blocks.Loop ∷ outer) e n f a = record { whole = a.whole; current = comes_more (blocks.Loop ∷ outer) outer context.current.statements statements.EndLoop refl refl refl (subst (λ o. Comes o context.current.statements) e a.current) }
ends_nest context (blocks.Program ∷ outer) e n f a = record { whole = all_push is_nested context.whole context.current a.whole (comes_whole context.open_blocks context.current (ap is_empty e) a.current); current = subst (λ o. Comes o []) (sym n) tt }
ends_nest context (blocks.Finally ∷ outer) e n f a = record { whole = all_push is_nested context.whole context.current a.whole (comes_whole context.open_blocks context.current (ap is_empty e) a.current); current = subst (λ o. Comes o []) (sym n) tt }

-- a line of this keyword may stand
abbrev may_be : List Block → Option Keyword → Bool
may_be open_blocks None = false
may_be open_blocks (Some k) = may_stand open_blocks k

one_less : (n m : ℕ) → m ≡ 1 + n → nat_lt 4 m ≡ false → nat_lt n 4 ≡ true
one_less n m e f = grind (arith, nat_tests)

-- a statement whose line may stand, and behind which at most four loops are open
statement_stands : (open_blocks : List Block) (statement : Statement) → may_be open_blocks (keyword_in statement) ≡ true → nat_lt 4 (loops (open_behind open_blocks (keyword_in statement))) ≡ false → (stands open_blocks statement ≡ true) × (open_behind open_blocks (keyword_in statement) ≡ blocks_after open_blocks statement)
statement_stands open_blocks statements.Else m l = (m, refl)
statement_stands open_blocks statements.Finally m l = (m, refl)
statement_stands open_blocks (statements.Loop rounds) m l = (one_less (loops open_blocks) (loops (blocks.Loop ∷ open_blocks)) (sum_by-cons (λ block. cond (is_loop block) 1 0) blocks.Loop open_blocks) l, refl)
statement_stands open_blocks statements.EndIf m l = cc
statement_stands open_blocks statements.EndLoop m l = cc
statement_stands open_blocks _ m l = (refl, refl)

some_open : (open_blocks : List Block) (statement : Statement) (o : Option Keyword) → Nested open_blocks → keyword_in statement ≡ o → may_be open_blocks o ≡ true → is_empty open_blocks ≡ false
some_open open_blocks statement None n e m = cc
some_open open_blocks statement (Some k) n e m =
    let o : StaysOpen open_blocks (blocks_behind open_blocks k) = says_open open_blocks k statement n m (spelled_matches k (Says statement) e) in
    o.before

-- no block is open before a program
program_comes : (open_blocks : List Block) → is_empty open_blocks ≡ true → Comes (blocks.Program ∷ open_blocks) []
program_comes [] e = (refl, refl)
program_comes (block ∷ outer) e = cc

-- a line that may stand, and behind which at most four loops are open
line_nests : (context : Context) (line : Line) → Nested context.open_blocks → may_be context.open_blocks (keyword_at line) ≡ true → nat_lt 4 (loops (open_behind context.open_blocks (keyword_at line))) ≡ false → AllNest context → AllNest (record (adding context (Some line)) { open_blocks = open_behind context.open_blocks (keyword_at line) })
line_nests context (Opens name params) n m l a = record { whole = a.whole; current = program_comes context.open_blocks m }
line_nests context Ends n m l a = ends_nest context context.open_blocks refl n m a
line_nests context (Says statement) n m l a =
    let s = statement_stands context.open_blocks statement m l in
    record {
      whole = a.whole;
      current = comes_more context.open_blocks (open_behind context.open_blocks (keyword_in statement)) context.current.statements statement (some_open context.open_blocks statement (keyword_in statement) n refl m) s.0 s.1 a.current;
    }

-- the line of a head has the head's keyword
keyword_of : (heading : Heading) (line : Line) → line_of heading ≡ Some line → keyword_at line ≡ heading.keyword
keyword_of heading line e = of_some (line_of heading) e (line_by heading heading.keyword)
  where
    of_some : (o : Option Line) → o ≡ Some line → IfSome o (λ x. keyword_at x ≡ heading.keyword) → keyword_at line ≡ heading.keyword
    of_some o f h = subst (λ p. IfSome p (λ x. keyword_at x ≡ heading.keyword)) f h

not_false : (b : Bool) → not b ≡ false → b ≡ true
not_false true e = refl
not_false false e = cc

head_nests : (context : Context) (h : Heading) (w : Option Keyword) (o : Option Line) → h.keyword ≡ w → line_of h ≡ o → is_none w ≡ false → is_none o ≡ false → is_some_with (λ keyword. not (may_stand context.open_blocks keyword)) w ≡ false → nat_lt 4 (loops (open_behind context.open_blocks w)) ≡ false → Nested context.open_blocks → AllNest context → AllNest (record (record (adding context o) { open_blocks = open_behind context.open_blocks w }) { begun = true })
head_nests context h None o e f g i m l n a = cc
head_nests context h (Some k) None e f g i m l n a = cc
head_nests context h (Some k) (Some line) e f g i m l n a =
    let same : keyword_at line ≡ Some k = keyword_of h line f ∙ e in
    let b : AllNest (record (adding context (Some line)) { open_blocks = open_behind context.open_blocks (keyword_at line) }) = line_nests context line n
    (subst (λ x. may_be context.open_blocks x ≡ true) (sym same) (not_false (may_stand context.open_blocks k) m))
    (subst (λ x. nat_lt 4 (loops (open_behind context.open_blocks x)) ≡ false) (sym same) l) a in
    record { whole = b.whole; current = subst (λ x. Comes (open_behind context.open_blocks x) (adding context (Some line)).current.statements) same b.current }

-- at most four loops are open
few_loops : (context : Context) → passes_limit context ≡ false → nat_lt 4 (loops context.open_blocks) ≡ false
few_loops context p =
    let programs = or_parts (nat_lt 256 (programs_begun context)) (nat_lt 4096 (places context.current.statements) || (nat_lt 4 (loops context.open_blocks) || nat_lt 16 (length context.open_blocks))) p in
    let some = or_parts (nat_lt 4096 (places context.current.statements)) (nat_lt 4 (loops context.open_blocks) || nat_lt 16 (length context.open_blocks)) programs.1 in
    (or_parts (nat_lt 4 (loops context.open_blocks)) (nat_lt 16 (length context.open_blocks)) some.1).0

step_nests : (built : Word → Bool) (context : Context) (list : List Token) → context.begun ≡ true → Nested context.open_blocks → IsFine built context list → AllNest context → AllNest (after_by context list)
step_nests built context list e n f a =
    let h : Heading = heading_of list in
    let s : said_by context list ≡ Some h = said_some context list e in
    let b : AllNest (record (behind context (Some h)) { begun = true }) = head_nests context h h.keyword (line_of h) refl refl
    (subst (λ x. is_some_with (λ heading. is_none heading.keyword) x ≡ false) s f.word)
    (subst (λ x. is_some_with (λ heading. is_none (line_of heading)) x ≡ false) s f.spells)
    (subst (λ x. is_some_with (λ keyword. not (may_stand context.open_blocks keyword)) (option_and_then (λ heading. heading.keyword) x) ≡ false) s f.stands)
    (subst (λ x. nat_lt 4 (loops (behind context x).open_blocks) ≡ false) s (few_loops (after_by context list) f.limit)) n a in
    subst (λ x. AllNest (record (behind context x) { begun = true })) (sym s) b

leads_nest : (built : Word → Bool) (context : Context) (lists : List (List Token)) (script : List Program) → context.begun ≡ true → Nested context.open_blocks → AllNest context → Leads built context lists script → list_all is_nested script ≡ true
leads_nest built context [] script e n a l = subst (λ programs. list_all is_nested programs ≡ true) l.1 a.whole
leads_nest built context (list ∷ rest) script e n a l =
    let d : Adds context (after_by context list) list = step_adds built context list e n l.0 in
    leads_nest built (after_by context list) rest script refl d.nested (step_nests built context list e n l.0 a) l.1

-- from the opening on: the first line adds nothing
first_nests : (built : Word → Bool) (lists : List (List Token)) (script : List Program) → Leads built opening lists script → list_all is_nested script ≡ true
first_nests built [] script l = subst (λ programs. list_all is_nested programs ≡ true) l.1 refl
first_nests built (list ∷ rest) script l = leads_nest built (after_by opening list) rest script refl tt (record { whole = refl; current = tt }) l.1

pub reads_nested : ReadsNested
reads_nested built text script e =
    let r : IsRead built text script = is_read built text script e in
    let l = leads_of built 1 opening (lines_of text) script (λ x. refl) r.lines in
    first_nests built (spoken (lines_of text)) script l.1
