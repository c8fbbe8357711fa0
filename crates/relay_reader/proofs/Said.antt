-- A line that belongs to programs is judged by its head, and another one by its place alone.
use Rattle.std.proofs.Common.{◌≡◌, ◌∙◌, ℕ, List, [], ◌∷◌, ◌++◌, Bool, true, false, not, ◌&&◌, ◌||◌, if◌then◌else◌, Option, Some, None, option_and_then, is_none, Result, Ok, Err, refl, ap, sym, subst}
use Rattle.dill_calls.specs.declared.word.Word.{Word}
use Rattle.dill_script.specs.declared.line.Block.TheVariants as blocks
use Rattle.dill_script.specs.declared.line.Block.{Block}
use Rattle.dill_script.specs.declared.refusal.Reason.{Reason}
use Rattle.dill_script.specs.declared.refusal.Reason.TheVariants.{UnknownWord, NotBuilt, BadBlock, BadOperand, RepeatedName, TooLarge}
use Rattle.dill_script.specs.Blocks.{is_empty, may_stand}
use Rattle.dill_script.specs.Contexts.{Context, adding, ending, behind, after, said}
use Rattle.dill_script.specs.Headings.{Heading, heading_of}
use Rattle.dill_script.specs.Lines.{has_tokens}
use Rattle.dill_script.specs.Refusals.{faults, first_reason, is_some_with, is_unbuilt, names_again, passes_limit}
use Rattle.dill_script.specs.Statements.{Line, Opens, Ends, Says, line_of}
use Rattle.dill_script.specs.Tokens.{Token, tokens}
use Rattle.relay_reader.specs.declared.fault.Fault.{Fault}
use Rattle.relay_reader.specs.Parts.{byte_faults, word_faults, spelling_faults, heading_faults, passing_faults}
use Rattle.relay_reader.specs.Telling.{Tells}
use Rattle.relay_reader.specs.Starts.{start_of}
use Rattle.relay_reader.proofs.Reasons.{tells_later}
use Rattle.relay_reader.proofs.Started.{start_by, start_is}

-- the reasons that depend on the head of a line that belongs to programs
abbrev pub said_faults : (Word → Bool) → Context → Bool → Option Heading → List (Bool × Reason)
said_faults built context last head =
    let word = option_and_then (λ heading. heading.keyword) head in
    (is_some_with (λ heading. is_none heading.keyword) head, UnknownWord)
    ∷ (is_some_with (is_unbuilt built) word, NotBuilt)
    ∷ (is_some_with (λ keyword. not (may_stand context.open_blocks keyword)) word || (last && not (is_empty (behind context head).open_blocks)), BadBlock)
    ∷ (is_some_with (λ heading. is_none (line_of heading)) head, BadOperand)
    ∷ (is_some_with (names_again context.whole) (option_and_then line_of head), RepeatedName)
    ∷ (passes_limit (behind context head), TooLarge)
    ∷ []

faults_said : (built : Word → Bool) (context : Context) (last : Bool) (line : List ℕ) (head : Option Heading) → said context line ≡ head → faults built context last line ≡ byte_faults context.begun line ++ said_faults built context last head
faults_said built context last line head is = ap (λ given. byte_faults context.begun line ++ said_faults built context last given) is

said_some : (context : Context) (line : List ℕ) (found : List Token) → (context.begun && has_tokens line) ≡ true → tokens line ≡ Some found → said context line ≡ Some (heading_of found)
said_some context line found belongs some = rw (belongs, some) refl

said_none : (context : Context) (line : List ℕ) → (context.begun && has_tokens line) ≡ false → said context line ≡ None
said_none context line apart = rw apart refl

ending_begun : (context : Context) (open_blocks : List Block) → (ending context open_blocks).begun ≡ context.begun
ending_begun context [] = refl
ending_begun context (blocks.Program ∷ outer) = refl
ending_begun context (blocks.Finally ∷ outer) = refl
ending_begun context (blocks.If ∷ outer) = refl
ending_begun context (blocks.Else ∷ outer) = refl
ending_begun context (blocks.Loop ∷ outer) = refl

adding_begun : (context : Context) (line : Option Line) → (adding context line).begun ≡ context.begun
adding_begun context None = refl
adding_begun context (Some (Opens name params)) = refl
adding_begun context (Some Ends) = ending_begun context context.open_blocks
adding_begun context (Some (Says statement)) = refl

both_or : (a b : Bool) → (a && b) ≡ true → (a || b) ≡ a
both_or true b both = refl
both_or false b both = cc

after_said : (context : Context) (line : List ℕ) (heading : Heading) → said context line ≡ Some heading → (context.begun && has_tokens line) ≡ true → after context line ≡ behind context (Some heading)
after_said context line heading is belongs =
    let with_begun : Bool → Context = λ begun. record (behind context (Some heading)) { begun = begun } in
    ap (λ head. let next : Context = behind context head in record next { begun = context.begun || has_tokens line }) is
    ∙ ap with_begun (both_or context.begun (has_tokens line) belongs ∙ sym (adding_begun context (line_of heading)))

none_last : (first : List (Bool × Reason)) (test : Bool) (reason : Reason) → first_reason (first ++ (test, reason) ∷ []) ≡ None → test ≡ false
none_last [] true reason none = cc
none_last [] false reason none = refl
none_last ((true, other) ∷ more) test reason none = cc
none_last ((false, other) ∷ more) test reason none = none_last more test reason none

pub tells_more : {X : Type 0} (result : Result X Fault) (reason : Option Reason) (Fact More : X → Type 0) → (reason ≡ None → (x : X) → Fact x → More x) → Tells result reason Fact → Tells result reason More
tells_more (Ok x) reason Fact More leads meant = (meant.0, leads meant.0 x meant.1)
tells_more (Err fault) reason Fact More leads meant = meant

-- a line that belongs to programs, and what it starts
pub read_said : (built : Word → Bool) (context new : Context) (last : Bool) (line : List ℕ) (found : List Token) (result : Result (Option (List ℕ × ℕ)) Fault) → tokens line ≡ Some found → (context.begun && has_tokens line) ≡ true
    → first_reason (byte_faults context.begun line) ≡ None → Tells result (first_reason (heading_faults built context last (heading_of found))) (λ started. (new ≡ behind context (Some (heading_of found))) × (started ≡ start_by found))
    → Tells result (first_reason (faults built context last line)) (λ started. (new ≡ after context line) × (passes_limit new ≡ false) × (started ≡ start_of line))
read_said built context new last line found result some belongs none meant =
    let heading = heading_of found in
    let head = said_some context line found belongs some in
    let word = word_faults built context.open_blocks last heading.keyword in
    let spelling = spelling_faults context.whole (line_of heading) in
    let Kept : Option (List ℕ × ℕ) → Type 0 = λ started. (new ≡ after context line) × (passes_limit new ≡ false) × (started ≡ start_of line) in
    let kept = tells_more result (first_reason (heading_faults built context last heading)) (λ started. (new ≡ behind context (Some heading)) × (started ≡ start_by found)) Kept
    (λ right started is. (is.0 ∙ sym (after_said context line heading head belongs), ap passes_limit is.0 ∙ none_last (word ++ spelling) (passes_limit (behind context (Some heading))) TooLarge right, is.1 ∙ start_is line found some))
    meant in
    let On : List (Bool × Reason) → Type 0 = λ list. Tells result (first_reason list) Kept in
    subst On (sym (faults_said built context last line (Some heading) head)) (tells_later result (byte_faults context.begun line) (heading_faults built context last heading) Kept none kept)

-- the reasons against a line that belongs to no program, where no limit is passed
none_said : (built : Word → Bool) (context : Context) (last : Bool) → passes_limit context ≡ false → first_reason (said_faults built context last None) ≡ first_reason (passing_faults context.open_blocks last)
none_said built context last within =
    ap (λ large. if last && not (is_empty context.open_blocks) then Some BadBlock else (if large then Some TooLarge else None)) within

-- a line that belongs to none
pub read_apart : {X : Type 0} (built : Word → Bool) (context new : Context) (last : Bool) (line : List ℕ) (result : Result X Fault) → passes_limit context ≡ false → (context.begun && has_tokens line) ≡ false
    → first_reason (byte_faults context.begun line) ≡ None → Tells result (first_reason (passing_faults context.open_blocks last)) (λ _. new ≡ record context { begun = context.begun || has_tokens line })
    → Tells result (first_reason (faults built context last line)) (λ _. (new ≡ after context line) × (passes_limit new ≡ false))
read_apart built context new last line result within apart none meant =
    let head = said_none context line apart in
    let next : Option Heading → Context = λ given. record (behind context given) { begun = context.begun || has_tokens line } in
    let kept = tells_more result (first_reason (passing_faults context.open_blocks last)) (λ _. new ≡ next None) (λ _. (new ≡ after context line) × (passes_limit new ≡ false))
    (λ right x is. (is ∙ sym (ap next head), ap passes_limit is ∙ within))
    meant in
    let Judged : Option Reason → Type 0 = λ reason. Tells result reason (λ _. (new ≡ after context line) × (passes_limit new ≡ false)) in
    let On : List (Bool × Reason) → Type 0 = λ list. Judged (first_reason list) in
    subst On (sym (faults_said built context last line None head)) (tells_later result (byte_faults context.begun line) (said_faults built context last None) _ none (subst Judged (sym (none_said built context last within)) kept))
