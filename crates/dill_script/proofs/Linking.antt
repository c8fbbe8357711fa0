-- What else a script asks of its lines is asked of their tokens.
use Rattle.std.proofs.Common.{◌≡◌, ℕ, ◌+◌, List, [], ◌∷◌, length, Bool, true, false, not, ◌||◌, ◌==◌, nat_lt, if◌then◌else◌, Option, Some, None, option_and_then, unwrap_or, Ok, Err, refl, sym, ap, ◌∙◌, subst, codes}
use Rattle.std.proofs.lemmas.Bool.{or_parts, or_from}
use Rattle.std.specs.List.{list_any}
use Rattle.dill_calls.specs.declared.word.Word.{Word}
use Rattle.dill_script.specs.declared.script.Program.{Program}
use Rattle.dill_script.specs.Blocks.{is_empty}
use Rattle.dill_script.specs.Contexts.{opening}
use Rattle.dill_script.specs.Headings.{heading_of}
use Rattle.dill_script.specs.Lines.{lines_of, has_tokens, is_blank}
use Rattle.dill_script.specs.Reading.{Reading, judged, started_by, starts_none, takes, here_or, first_without, with_main, with_programs, linked, with_version, of_lines, unless_large, script_with}
use Rattle.dill_script.specs.Refusals.{has_name, is_some_with}
use Rattle.dill_script.specs.Spelling.{tokens_in, spoken}
use Rattle.dill_script.specs.Statements.{line_of}
use Rattle.dill_script.specs.Tokens.{Token, Mark, Blank, Hash, Quote, Backslash, Other, Between, InText, InPlain, put, tokens, tokens_from}
use Rattle.dill_script.proofs.Judging.{spoken_is}

-- the line of these tokens starts a program that isn't there
abbrev pub starts_by : List Program → List Token → Bool
starts_by script list = is_some_with (λ start. not (list_any (takes start) script)) (option_and_then started_by (line_of (heading_of list)))

blank_step : (byte : ℕ) (bytes : List ℕ) (b h : Bool) → is_blank byte ≡ b → byte == 35 ≡ h → (if b then has_tokens bytes else not h) ≡ false → (has_tokens bytes ≡ false → tokens bytes ≡ Some []) → tokens (byte ∷ bytes) ≡ Some []
blank_step byte bytes true h e f g i = ap (λ m. by_mark m) (ap (λ b. if b then Blank else (if byte == 35 then Hash else (if byte == 34 then Quote else (if byte == 92 then Backslash else Other)))) e) ∙ i g
  where
    by_mark : Mark → Option (List Token)
    by_mark m = elim m [ Blank ↦ tokens_from Between bytes | Hash ↦ Some [] | Quote ↦ tokens_from InText bytes | _ ↦ put byte (tokens_from InPlain bytes) ]
blank_step byte bytes false true e f g i = ap (λ m. by_mark m) (ap (λ b. if b then Blank else (if byte == 35 then Hash else (if byte == 34 then Quote else (if byte == 92 then Backslash else Other)))) e ∙ ap (λ b. if b then Hash else (if byte == 34 then Quote else (if byte == 92 then Backslash else Other))) f)
  where
    by_mark : Mark → Option (List Token)
    by_mark m = elim m [ Blank ↦ tokens_from Between bytes | Hash ↦ Some [] | Quote ↦ tokens_from InText bytes | _ ↦ put byte (tokens_from InPlain bytes) ]
blank_step byte bytes false false e f g i = cc

-- a line that has no tokens is read as none
pub blank_tokens : (line : List ℕ) → has_tokens line ≡ false → tokens line ≡ Some []
blank_tokens [] e = refl
blank_tokens (byte ∷ bytes) e = blank_step byte bytes (is_blank byte) (byte == 35) refl refl e (blank_tokens bytes)

here_none : (number : ℕ) (b : Bool) (further : Option ℕ) → here_or number b further ≡ None → (b ≡ false) × (further ≡ None)
here_none number true further e = cc
here_none number false further e = (refl, e)

none_here : (number : ℕ) (b : Bool) (further : Option ℕ) → b ≡ false → further ≡ None → here_or number b further ≡ None
none_here number true further e f = cc
none_here number false further e f = f

spoken_step : (script : List Program) (line : List ℕ) (rest : List (List ℕ)) (b : Bool) → has_tokens line ≡ b → starts_none script line ≡ false → list_any (starts_by script) (spoken rest) ≡ false → list_any (starts_by script) (spoken (line ∷ rest)) ≡ false
spoken_step script line rest true e f g = ap (list_any (starts_by script)) (spoken_is line rest true e) ∙ or_from (starts_by script (tokens_in line)) (list_any (starts_by script) (spoken rest)) f g
spoken_step script line rest false e f g = ap (list_any (starts_by script)) (spoken_is line rest false e) ∙ g

-- no line starts a program that isn't there
pub without_spoken : (script : List Program) (number : ℕ) (lines : List (List ℕ)) → first_without script number lines ≡ None → list_any (starts_by script) (spoken lines) ≡ false
without_spoken script number [] e = refl
without_spoken script number (line ∷ rest) e =
    let h = here_none number (starts_none script line) (first_without script (number + 1) rest) e in
    spoken_step script line rest (has_tokens line) refl h.0 (without_spoken script (number + 1) rest h.1)

starts_step : (script : List Program) (line : List ℕ) (rest : List (List ℕ)) (b : Bool) → has_tokens line ≡ b → list_any (starts_by script) (spoken (line ∷ rest)) ≡ false → (starts_none script line ≡ false) × (list_any (starts_by script) (spoken rest) ≡ false)
starts_step script line rest true e f = or_parts (starts_by script (tokens_in line)) (list_any (starts_by script) (spoken rest)) (ap (list_any (starts_by script)) (sym (spoken_is line rest true e)) ∙ f)
starts_step script line rest false e f = (ap (λ o. starts_by script (unwrap_or o [])) (blank_tokens line e), ap (list_any (starts_by script)) (sym (spoken_is line rest false e)) ∙ f)

pub spoken_without : (script : List Program) (number : ℕ) (lines : List (List ℕ)) → list_any (starts_by script) (spoken lines) ≡ false → first_without script number lines ≡ None
spoken_without script number [] e = refl
spoken_without script number (line ∷ rest) e =
    let h = starts_step script line rest (has_tokens line) refl e in
    none_here number (starts_none script line) (first_without script (number + 1) rest) h.0 (spoken_without script (number + 1) rest h.1)

any_step : (line : List ℕ) (rest : List (List ℕ)) (b : Bool) → has_tokens line ≡ b → list_any has_tokens rest ≡ not (is_empty (spoken rest)) → list_any has_tokens (line ∷ rest) ≡ not (is_empty (spoken (line ∷ rest)))
any_step line rest true e h = ap (λ x. x || list_any has_tokens rest) e ∙ sym (ap (λ x. not (is_empty x)) (spoken_is line rest true e))
any_step line rest false e h = ap (λ x. x || list_any has_tokens rest) e ∙ h ∙ sym (ap (λ x. not (is_empty x)) (spoken_is line rest false e))

-- some line has tokens exactly where some are spoken
pub any_spoken : (lines : List (List ℕ)) → list_any has_tokens lines ≡ not (is_empty (spoken lines))
any_spoken [] = refl
any_spoken (line ∷ rest) = any_step line rest (has_tokens line) refl (any_spoken rest)

-- what a text that was read has met
pub record IsRead (built : Word → Bool) (text : List ℕ) (script : List Program) : Type 0 where
  pub small : nat_lt 1048576 (length text) ≡ false
  pub some : list_any has_tokens (lines_of text) ≡ true
  pub lines : judged built 1 opening (lines_of text) ≡ Ok script
  pub programs : first_without script 1 (lines_of text) ≡ None
  pub main : list_any (has_name (codes "main")) script ≡ true

abbrev read_as : List Program → Reading
read_as script = Ok script

same_ok : (xs ys : List Program) → read_as xs ≡ read_as ys → xs ≡ ys
same_ok xs ys e = cc

small_parts : (b : Bool) (reading : Reading) (script : List Program) → unless_large b reading ≡ Ok script → (b ≡ false) × (reading ≡ Ok script)
small_parts true reading script e = cc
small_parts false reading script e = (refl, e)

version_parts : (b : Bool) (reading : Reading) (script : List Program) → with_version b reading ≡ Ok script → (b ≡ true) × (reading ≡ Ok script)
version_parts true reading script e = (refl, e)
version_parts false reading script e = cc

main_parts : (b : Bool) (found script : List Program) → with_main b found ≡ Ok script → (b ≡ true) × (found ≡ script)
main_parts true found script e = (refl, same_ok found script e)
main_parts false found script e = cc

programs_parts : (o : Option ℕ) (found script : List Program) → with_programs o found ≡ Ok script → (o ≡ None) × (list_any (has_name (codes "main")) found ≡ true) × (found ≡ script)
programs_parts (Some number) found script e = cc
programs_parts None found script e = let p = main_parts (list_any (has_name (codes "main")) found) found script e in (refl, p.0, p.1)

linked_parts : (lines : List (List ℕ)) (reading : Reading) (script : List Program) → linked lines reading ≡ Ok script → (reading ≡ Ok script) × (first_without script 1 lines ≡ None) × (list_any (has_name (codes "main")) script ≡ true)
linked_parts lines (Err refusal) script e = cc
linked_parts lines (Ok found) script e =
    let p = programs_parts (first_without found 1 lines) found script e in
    (ap read_as p.2, subst (λ s. first_without s 1 lines ≡ None) p.2 p.0, subst (λ s. list_any (has_name (codes "main")) s ≡ true) p.2 p.1)

pub is_read : (built : Word → Bool) (text : List ℕ) (script : List Program) → script_with built text ≡ Ok script → IsRead built text script
is_read built text script e =
    let a = small_parts (nat_lt 1048576 (length text)) (of_lines built (lines_of text)) script e in
    let b = version_parts (list_any has_tokens (lines_of text)) (linked (lines_of text) (judged built 1 opening (lines_of text))) script a.1 in
    let c = linked_parts (lines_of text) (judged built 1 opening (lines_of text)) script b.1 in
    record { small = a.0; some = b.0; lines = c.0; programs = c.1; main = c.2 }

pub reads : (built : Word → Bool) (text : List ℕ) (script : List Program) → IsRead built text script → script_with built text ≡ Ok script
reads built text script r = ap (λ b. unless_large b (of_lines built (lines_of text))) r.small
    ∙ ap (λ b. with_version b (linked (lines_of text) (judged built 1 opening (lines_of text)))) r.some
    ∙ ap (linked (lines_of text)) r.lines
    ∙ ap (λ o. with_programs o script) r.programs
    ∙ ap (λ b. with_main b script) r.main
