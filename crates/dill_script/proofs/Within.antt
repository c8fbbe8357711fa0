-- What is read is within the limits.
use Rattle.std.proofs.Common.{◌≡◌, ℕ, ◌+◌, ◌≤◌, List, [], ◌∷◌, ◌++◌, length, Bool, true, false, ◌&&◌, ◌||◌, nat_le, nat_lt, if◌then◌else◌, Option, Some, None, refl, sym, ap, ◌∙◌, subst, ltb-false, le-leb}
use Rattle.std.proofs.lemmas.Bool.{and_from, and_parts, or_parts}
use Rattle.std.specs.List.{list_all}
use Rattle.dill_calls.specs.declared.word.Word.{Word}
use Rattle.dill_script.specs.declared.line.Block.{Block}
use Rattle.dill_script.specs.declared.line.Block.TheVariants as blocks
use Rattle.dill_script.specs.declared.script.Program.{Program}
use Rattle.dill_script.specs.Blocks.{is_empty}
use Rattle.dill_script.specs.Contexts.{Context, opening, adding, ending, behind, places}
use Rattle.dill_script.specs.Headings.{Heading}
use Rattle.dill_script.specs.Lines.{lines_of}
use Rattle.dill_script.specs.Refusals.{passes_limit, programs_begun}
use Rattle.dill_script.specs.Spelling.{spoken, is_sized, ReadsWithin}
use Rattle.dill_script.specs.Statements.{Line, Opens, Ends, Says, line_of}
use Rattle.dill_script.specs.Tokens.{Token}
use Rattle.dill_script.proofs.Judging.{leads_of}
use Rattle.dill_script.proofs.Linking.{IsRead, is_read}
use Rattle.dill_script.proofs.Tokenwise.{IsFine, Leads, said_by, after_by}

-- the programs so far are within the limits
record IsSized (context : Context) : Type 0 where
  whole : list_all is_sized context.whole ≡ true
  current : is_sized context.current ≡ true

all_push : (programs : List Program) (program : Program) → list_all is_sized programs ≡ true → is_sized program ≡ true → list_all is_sized (programs ++ program ∷ []) ≡ true
all_push [] program e f = and_from (is_sized program) true f refl
all_push (first ∷ rest) program e f =
    let p = and_parts (is_sized first) (list_all is_sized rest) e in
    and_from (is_sized first) (list_all is_sized (rest ++ program ∷ [])) p.0 (all_push rest program p.1 f)

ending_whole : (context : Context) (open_blocks : List Block) → IsSized context → list_all is_sized (ending context open_blocks).whole ≡ true
ending_whole context (blocks.If ∷ outer) s = s.whole
ending_whole context (blocks.Else ∷ outer) s = s.whole
ending_whole context (blocks.Loop ∷ outer) s = s.whole
ending_whole context (blocks.Program ∷ outer) s = all_push context.whole context.current s.whole s.current
ending_whole context (blocks.Finally ∷ outer) s = all_push context.whole context.current s.whole s.current
ending_whole context [] s = all_push context.whole context.current s.whole s.current

adding_whole : (context : Context) (line : Option Line) → IsSized context → list_all is_sized (adding context line).whole ≡ true
adding_whole context None s = s.whole
adding_whole context (Some (Opens name params)) s = s.whole
adding_whole context (Some Ends) s = ending_whole context context.open_blocks s
adding_whole context (Some (Says statement)) s = s.whole

behind_whole : (context : Context) (head : Option Heading) → IsSized context → list_all is_sized (behind context head).whole ≡ true
behind_whole context None s = s.whole
behind_whole context (Some heading) s = adding_whole context (line_of heading) s

sized_of : (n : ℕ) → nat_lt 4096 n ≡ false → nat_le n 4096 ≡ true
sized_of n e = le-leb n 4096 (ltb-false 4096 n e)

-- a line against which nothing holds keeps the limits
step_sized : (built : Word → Bool) (context : Context) (list : List Token) → IsSized context → IsFine built context list → IsSized (after_by context list)
step_sized built context list s f =
    let a = or_parts (nat_lt 256 (programs_begun (after_by context list))) _ f.limit in
    let b = or_parts (nat_lt 4096 (places (after_by context list).current.statements)) _ a.1 in
    record { whole = behind_whole context (said_by context list) s; current = sized_of (places (after_by context list).current.statements) b.0 }

few_begun : (context : Context) → is_empty context.open_blocks ≡ true → passes_limit context ≡ false → length context.whole ≤ 256
few_begun context e f =
    let a = or_parts (nat_lt 256 (programs_begun context)) _ f in
    let b : programs_begun context ≡ length context.whole = ap (λ x. if x then length context.whole else length context.whole + 1) e in
    ltb-false 256 (length context.whole) (ap (nat_lt 256) (sym b) ∙ a.0)

leads_sized : (built : Word → Bool) (context : Context) (lists : List (List Token)) (script : List Program) → IsSized context → passes_limit context ≡ false → Leads built context lists script → (list_all is_sized script ≡ true) × (length script ≤ 256)
leads_sized built context [] script s f l = (subst (λ x. list_all is_sized x ≡ true) l.1 s.whole, subst (λ (x : List Program). length x ≤ 256) l.1 (few_begun context l.0 f))
leads_sized built context (list ∷ rest) script s f l = leads_sized built (after_by context list) rest script (step_sized built context list s l.0) l.0.limit l.1

pub reads_within : ReadsWithin
reads_within built text script e =
    let r : IsRead built text script = is_read built text script e in
    let l = leads_of built 1 opening (lines_of text) script (λ x. refl) r.lines in
    let s = leads_sized built opening (spoken (lines_of text)) script (record { whole = refl; current = refl }) refl l.1 in
    record { programs = s.1; places = s.0; main = r.main }
