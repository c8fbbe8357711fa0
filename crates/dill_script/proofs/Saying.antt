-- A test that the statement of each line passes is passed by each statement of what is read.
use Rattle.std.proofs.Common.{◌≡◌, ℕ, List, [], ◌∷◌, ◌++◌, Bool, true, false, ◌&&◌, if◌then◌else◌, Option, Some, None, Ok, refl, subst}
use Rattle.std.proofs.lemmas.Bool.{and_from, and_parts}
use Rattle.std.specs.List.{list_all}
use Rattle.dill_calls.specs.declared.word.Word.{Word}
use Rattle.dill_script.specs.declared.line.Block.{Block}
use Rattle.dill_script.specs.declared.line.Block.TheVariants as blocks
use Rattle.dill_script.specs.declared.script.Program.{Program}
use Rattle.dill_script.specs.declared.statement.Statement.{Statement}
use Rattle.dill_script.specs.declared.statement.Statement.TheVariants.{EndIf, EndLoop}
use Rattle.dill_script.specs.Contexts.{Context, opening, adding, ending, behind}
use Rattle.dill_script.specs.Fitting.{all_say}
use Rattle.dill_script.specs.Headings.{heading_of}
use Rattle.dill_script.specs.Lines.{lines_of}
use Rattle.dill_script.specs.Reading.{script_with}
use Rattle.dill_script.specs.Spelling.{spoken}
use Rattle.dill_script.specs.Statements.{Line, Opens, Ends, Says, line_of}
use Rattle.dill_script.specs.Tokens.{Token}
use Rattle.dill_script.proofs.Judging.{leads_of}
use Rattle.dill_script.proofs.Linking.{IsRead, is_read}
use Rattle.dill_script.proofs.Tokenwise.{Leads, after_by}

-- the statement of a line passes, where there is one
abbrev pub says_well : (Statement → Bool) → Option Line → Bool
says_well test (Some (Says statement)) = test statement
says_well test _ = true

-- so do those of the lines with these tokens
abbrev pub line_says : (Statement → Bool) → List Token → Bool
line_says test list = says_well test (line_of (heading_of list))

-- one more that passes
pub all_push : {X : Type 0} (test : X → Bool) (xs : List X) (x : X) → list_all test xs ≡ true → test x ≡ true → list_all test (xs ++ x ∷ []) ≡ true
all_push test [] x e f = and_from (test x) true f refl
all_push test (first ∷ rest) x e f =
    let p = and_parts (test first) (list_all test rest) e in
    and_from (test first) (list_all test (rest ++ x ∷ [])) p.0 (all_push test rest x p.1 f)

-- a test that the ends of blocks pass
pub record Tests (test : Statement → Bool) : Type 0 where
  pub end_if : test EndIf ≡ true
  pub end_loop : test EndLoop ≡ true

-- the statements so far pass
record AllSay (test : Statement → Bool) (context : Context) : Type 0 where
  whole : all_say test context.whole ≡ true
  current : list_all test context.current.statements ≡ true

saying_all : (test : Statement → Bool) (context : Context) (statement : Statement) → AllSay test context → test statement ≡ true → list_all test (context.current.statements ++ statement ∷ []) ≡ true
saying_all test context statement s e = all_push test context.current.statements statement s.current e

ending_all : (test : Statement → Bool) → Tests test → (context : Context) (open_blocks : List Block) → AllSay test context → AllSay test (ending context open_blocks)
ending_all test t context (blocks.If ∷ outer) s = record { whole = s.whole; current = saying_all test context EndIf s t.end_if }
ending_all test t context (blocks.Else ∷ outer) s = record { whole = s.whole; current = saying_all test context EndIf s t.end_if }
ending_all test t context (blocks.Loop ∷ outer) s = record { whole = s.whole; current = saying_all test context EndLoop s t.end_loop }
ending_all test t context _ s = record { whole = all_push (λ program. list_all test program.statements) context.whole context.current s.whole s.current; current = refl }

adding_all : (test : Statement → Bool) → Tests test → (context : Context) (line : Option Line) → AllSay test context → says_well test line ≡ true → AllSay test (adding context line)
adding_all test t context None s e = s
adding_all test t context (Some (Opens name params)) s e = record { whole = s.whole; current = refl }
adding_all test t context (Some Ends) s e = ending_all test t context context.open_blocks s
adding_all test t context (Some (Says statement)) s e = record { whole = s.whole; current = saying_all test context statement s e }

step_all : (test : Statement → Bool) → Tests test → (context : Context) (list : List Token) (begun : Bool) → AllSay test context → line_says test list ≡ true → AllSay test (record (behind context (if begun then Some (heading_of list) else None)) { begun = true })
step_all test t context list true s e =
    let a : AllSay test (adding context (line_of (heading_of list))) = adding_all test t context (line_of (heading_of list)) s e in
    record { whole = a.whole; current = a.current }
step_all test t context list false s e = record { whole = s.whole; current = s.current }

leads_all : (test : Statement → Bool) → Tests test → (built : Word → Bool) (context : Context) (lists : List (List Token)) (script : List Program) → AllSay test context → list_all (line_says test) lists ≡ true → Leads built context lists script → all_say test script ≡ true
leads_all test t built context [] script s e l = subst (λ programs. all_say test programs ≡ true) l.1 s.whole
leads_all test t built context (list ∷ rest) script s e l =
    let p = and_parts (line_says test list) (list_all (line_says test) rest) e in
    leads_all test t built (after_by context list) rest script (step_all test t context list context.begun s p.0) p.1 l.1

pub reads_all : (test : Statement → Bool) → Tests test → (built : Word → Bool) (text : List ℕ) (script : List Program) → script_with built text ≡ Ok script → list_all (line_says test) (spoken (lines_of text)) ≡ true → all_say test script ≡ true
reads_all test t built text script e f =
    let r : IsRead built text script = is_read built text script e in
    let l = leads_of built 1 opening (lines_of text) script (λ x. refl) r.lines in
    leads_all test t built opening (spoken (lines_of text)) script (record { whole = refl; current = refl }) f l.1
