-- Lines are judged well exactly where their bytes and texts may stand and their tokens lead to the programs.
use Rattle.std.proofs.Common.{◌≡◌, ℕ, ◌+◌, List, [], ◌∷◌, map, filter, Bool, true, false, not, ◌&&◌, ◌||◌, cond, if◌then◌else◌, Option, Some, None, option_and_then, is_some, is_none, Ok, refl, sym, ap, ◌∙◌, subst}
use Rattle.std.proofs.lemmas.Bool.{and_parts, or_from, and_from}
use Rattle.std.specs.List.{list_all}
use Rattle.dill_calls.specs.declared.word.Word.{Word}
use Rattle.dill_script.specs.declared.refusal.Reason.{Reason}
use Rattle.dill_script.specs.declared.line.Block.{Block}
use Rattle.dill_script.specs.declared.script.Program.{Program}
use Rattle.dill_script.specs.Blocks.{is_empty, may_stand}
use Rattle.dill_script.specs.Contexts.{Context, said, after}
use Rattle.dill_script.specs.Lines.{is_line_byte, has_tokens}
use Rattle.dill_script.specs.Reading.{Reading, judged, refused_or}
use Rattle.dill_script.specs.Refusals.{faults, first_reason, is_some_with, keyword_said, is_version, is_unbuilt, names_again, passes_limit}
use Rattle.dill_script.specs.Spelling.{tokens_in, spoken}
use Rattle.dill_script.specs.Statements.{line_of}
use Rattle.dill_script.specs.Tokens.{Token, tokens}
use Rattle.dill_script.proofs.Tokenwise.{said_none, Leads, Passes, passes, no_reason, fine_of, passes_of, after_is, after_none}

-- bytes and texts as they may be
pub record AreClean (lines : List (List ℕ)) : Type 0 where
  pub bytes : list_all (λ line. list_all is_line_byte line) lines ≡ true
  pub texts : list_all (λ line. is_some (tokens line)) lines ≡ true

decided : (number : ℕ) (o : Option Reason) (further : Reading) (script : List Program) → refused_or number o further ≡ Ok script → (o ≡ None) × (further ≡ Ok script)
decided number None further script e = (refl, e)
decided number (Some reason) further script e = cc

not_false : (b : Bool) → not b ≡ false → b ≡ true
not_false true e = refl
not_false false e = cc

some_of : (o : Option (List Token)) → is_none o ≡ false → is_some o ≡ true
some_of None e = cc
some_of (Some list) e = refl

none_of : (o : Option (List Token)) → is_some o ≡ true → is_none o ≡ false
none_of None e = cc
none_of (Some list) e = refl

-- the tokens of a line before those of others, where it has some
pub spoken_is : (line : List ℕ) (rest : List (List ℕ)) (b : Bool) → has_tokens line ≡ b → spoken (line ∷ rest) ≡ (if b then tokens_in line ∷ spoken rest else spoken rest)
spoken_is line rest true e = ap (λ b. map tokens_in (cond b (line ∷ filter has_tokens rest) (filter has_tokens rest))) e
spoken_is line rest false e = ap (λ b. map tokens_in (cond b (line ∷ filter has_tokens rest) (filter has_tokens rest))) e

-- no block is open behind the last line
closed : (b : Bool) (open_blocks : List Block) → b ≡ true → (b && not (is_empty open_blocks)) ≡ false → is_empty open_blocks ≡ true
closed true open_blocks e f = not_false (is_empty open_blocks) f
closed false open_blocks e f = cc

leads_step : (built : Word → Bool) (context : Context) (line : List ℕ) (rest : List (List ℕ)) (script : List Program) (b : Bool) → has_tokens line ≡ b → Passes built context (is_empty rest) line → Leads built (after context line) (spoken rest) script → Leads built context (spoken (line ∷ rest)) script
leads_step built context line rest script true e p l = subst (λ list. Leads built context list script) (sym (spoken_is line rest true e)) (fine_of built context (is_empty rest) line e p, subst (λ c. Leads built c (spoken rest) script) (after_is context line e) l)
leads_step built context line rest script false e p l = subst (λ list. Leads built context list script) (sym (spoken_is line rest false e)) (subst (λ c. Leads built c (spoken rest) script) (after_none context line e) l)

last_part : (built : Word → Bool) (context : Context) (last : Bool) (line : List ℕ) → Passes built context last line → (last && not (is_empty (after context line).open_blocks)) ≡ false
last_part built context last line p = second_part (is_some_with (λ keyword. not (may_stand context.open_blocks keyword)) (keyword_said context line)) (last && not (is_empty (after context line).open_blocks)) p.blocks
  where
    second_part : (a b : Bool) → (a || b) ≡ false → b ≡ false
    second_part true b e = cc
    second_part false b e = e

is_last : (rest : List (List ℕ)) → rest ≡ [] → is_empty rest ≡ true
is_last rest e = rw e refl

abbrev read_as : List Program → Reading
read_as script = Ok script

same_ok : (xs ys : List Program) → read_as xs ≡ read_as ys → xs ≡ ys
same_ok xs ys e = cc

-- lines that are judged well
pub leads_of : (built : Word → Bool) (number : ℕ) (context : Context) (lines : List (List ℕ)) (script : List Program) → (lines ≡ [] → is_empty context.open_blocks ≡ true) → judged built number context lines ≡ Ok script → AreClean lines × Leads built context (spoken lines) script
leads_of built number context [] script c e = (record { bytes = refl; texts = refl }, (c refl, same_ok context.whole script e))
leads_of built number context (line ∷ rest) script c e =
    let d = decided number (first_reason (faults built context (is_empty rest) line)) (judged built (number + 1) (after context line) rest) script e in
    let p : Passes built context (is_empty rest) line = passes built context (is_empty rest) line d.0 in
    let l = leads_of built (number + 1) (after context line) rest script (λ x. closed (is_empty rest) (after context line).open_blocks (is_last rest x) (last_part built context (is_empty rest) line p)) d.1 in (
      record { bytes = and_from (list_all is_line_byte line) (list_all (λ x. list_all is_line_byte x) rest) (not_false (list_all is_line_byte line) p.bytes) l.0.bytes; texts = and_from (is_some (tokens line)) (list_all (λ x. is_some (tokens x)) rest) (some_of (tokens line) p.texts) l.0.texts },
      leads_step built context line rest script (has_tokens line) refl p l.1,
    )

last_closed : (built : Word → Bool) (context : Context) (rest : List (List ℕ)) (script : List Program) → Leads built context (spoken rest) script → (is_empty rest && not (is_empty context.open_blocks)) ≡ false
last_closed built context [] script l = rw l.0 refl
last_closed built context (line ∷ rest) script l = refl

-- nothing is wrong with a line without tokens
blank_passes : (built : Word → Bool) (context : Context) (last : Bool) (line : List ℕ) → has_tokens line ≡ false → list_all is_line_byte line ≡ true → is_none (tokens line) ≡ false → (last && not (is_empty (after context line).open_blocks)) ≡ false → passes_limit context ≡ false → Passes built context last line
blank_passes built context last line e b t l m =
    let s : None ≡ said context line = sym (said_none context line e) in
    record {
      version = blank_version (not context.begun) (has_tokens line) (not (is_version (tokens line))) e;
      bytes = rw b refl;
      texts = t;
      word = subst (λ h. is_some_with (λ heading. is_none heading.keyword) h ≡ false) s refl;
      known = subst (λ h. is_some_with (is_unbuilt built) (option_and_then (λ heading. heading.keyword) h) ≡ false) s refl;
      blocks = or_from (is_some_with (λ keyword. not (may_stand context.open_blocks keyword)) (keyword_said context line)) (last && not (is_empty (after context line).open_blocks)) (subst (λ h. is_some_with (λ keyword. not (may_stand context.open_blocks keyword)) (option_and_then (λ heading. heading.keyword) h) ≡ false) s refl) l;
      spells = subst (λ h. is_some_with (λ heading. is_none (line_of heading)) h ≡ false) s refl;
      name = subst (λ h. is_some_with (names_again context.whole) (option_and_then line_of h) ≡ false) s refl;
      limit = subst (λ c. passes_limit c ≡ false) (sym (after_none context line e)) m;
    }
  where
    blank_version : (a b c : Bool) → b ≡ false → (a && (b && c)) ≡ false
    blank_version true b c e = rw e refl
    blank_version false b c e = refl

-- a line whose tokens lead on, and the lines behind it
judged_step : (built : Word → Bool) (number : ℕ) (context : Context) (line : List ℕ) (rest : List (List ℕ)) (script : List Program) → Passes built context (is_empty rest) line → judged built (number + 1) (after context line) rest ≡ Ok script → judged built number context (line ∷ rest) ≡ Ok script
judged_step built number context line rest script p j = ap (λ o. refused_or number o (judged built (number + 1) (after context line) rest)) (no_reason built context (is_empty rest) line p) ∙ j

-- lines that are clean and whose tokens lead to the programs are judged well
pub judged_of : (built : Word → Bool) (number : ℕ) (context : Context) (lines : List (List ℕ)) (script : List Program) → AreClean lines → passes_limit context ≡ false → Leads built context (spoken lines) script → judged built number context lines ≡ Ok script
judged_of built number context [] script c m l = ap read_as l.1
judged_of built number context (line ∷ rest) script c m l =
    let b = and_parts (list_all is_line_byte line) (list_all (λ x. list_all is_line_byte x) rest) c.bytes in
    let t = and_parts (is_some (tokens line)) (list_all (λ x. is_some (tokens x)) rest) c.texts in
    by_tokens (has_tokens line) refl b t (λ n d k j. judged_of built n d rest script (record { bytes = b.1; texts = t.1 }) k j)
  where
    by_tokens : (x : Bool) → has_tokens line ≡ x → (list_all is_line_byte line ≡ true) × (list_all (λ y. list_all is_line_byte y) rest ≡ true) → (is_some (tokens line) ≡ true) × (list_all (λ y. is_some (tokens y)) rest ≡ true) → ((n : ℕ) (d : Context) → passes_limit d ≡ false → Leads built d (spoken rest) script → judged built n d rest ≡ Ok script) → judged built number context (line ∷ rest) ≡ Ok script
    by_tokens true e b t further =
        let q : Leads built context (tokens_in line ∷ spoken rest) script = subst (λ list. Leads built context list script) (spoken_is line rest true e) l in
        let r : Leads built (after context line) (spoken rest) script = subst (λ d. Leads built d (spoken rest) script) (sym (after_is context line e)) q.1 in
        let p : Passes built context (is_empty rest) line = passes_of built context (is_empty rest) line e b.0 (none_of (tokens line) t.0) (last_closed built (after context line) rest script r) q.0 in
        judged_step built number context line rest script p (further (number + 1) (after context line) p.limit r)
    by_tokens false e b t further =
        let q : Leads built context (spoken rest) script = subst (λ list. Leads built context list script) (spoken_is line rest false e) l in
        let r : Leads built (after context line) (spoken rest) script = subst (λ d. Leads built d (spoken rest) script) (sym (after_none context line e)) q in
        let p : Passes built context (is_empty rest) line = blank_passes built context (is_empty rest) line e b.0 (none_of (tokens line) t.0) (last_closed built (after context line) rest script r) m in
        judged_step built number context line rest script p (further (number + 1) (after context line) p.limit r)
