-- Judging lines looks at nothing but the tokens of those that have some.
use Rattle.std.proofs.Common.{◌≡◌, ℕ, List, [], ◌∷◌, Bool, true, false, not, ◌&&◌, ◌||◌, if◌then◌else◌, Option, Some, None, option_and_then, is_none, unwrap_or, refl, sym, ◌∙◌, subst}
use Rattle.std.proofs.lemmas.Bool.{or_from, or_parts, or_right}
use Rattle.std.specs.List.{list_all}
use Rattle.dill_calls.specs.declared.word.Word.{Word}
use Rattle.dill_script.specs.declared.line.Keyword.{Keyword}
use Rattle.dill_script.specs.declared.refusal.Reason.TheVariants.{NoVersion, BadByte, BadText, UnknownWord, NotBuilt, BadBlock, BadOperand, RepeatedName, TooLarge}
use Rattle.dill_script.specs.declared.script.Program.{Program}
use Rattle.dill_script.specs.Blocks.{is_empty, may_stand}
use Rattle.dill_script.specs.Contexts.{Context, said, after, behind}
use Rattle.dill_script.specs.Headings.{Heading, heading_of}
use Rattle.dill_script.specs.Lines.{is_line_byte, has_tokens}
use Rattle.dill_script.specs.Refusals.{faults, first_reason, lacks_version, is_version, has_unknown_word, keyword_said, is_unbuilt, breaks_blocks, misspells, repeats_name, names_again, passes_limit, is_some_with}
use Rattle.dill_script.specs.Spelling.{tokens_in}
use Rattle.dill_script.specs.Statements.{line_of}
use Rattle.dill_script.specs.Tokens.{Token, tokens}

-- the head of a line that belongs to programs, by its tokens
abbrev pub said_by : Context → List Token → Option Heading
said_by context list = if context.begun then Some (heading_of list) else None

abbrev pub after_by : Context → List Token → Context
after_by context list = record (behind context (said_by context list)) { begun = true }

abbrev pub keyword_by : Context → List Token → Option Keyword
keyword_by context list = option_and_then (λ heading. heading.keyword) (said_by context list)

-- nothing is wrong with a line of these tokens, whatever follows it
pub record IsFine (built : Word → Bool) (context : Context) (list : List Token) : Type 0 where
  pub version : (not context.begun && not (is_version (Some list))) ≡ false
  pub word : is_some_with (λ heading. is_none heading.keyword) (said_by context list) ≡ false
  pub known : is_some_with (is_unbuilt built) (keyword_by context list) ≡ false
  pub stands : is_some_with (λ keyword. not (may_stand context.open_blocks keyword)) (keyword_by context list) ≡ false
  pub spells : is_some_with (λ heading. is_none (line_of heading)) (said_by context list) ≡ false
  pub name : is_some_with (names_again context.whole) (option_and_then line_of (said_by context list)) ≡ false
  pub limit : passes_limit (after_by context list) ≡ false

-- lines of these tokens lead to these programs
abbrev pub Leads : (Word → Bool) → Context → List (List Token) → List Program → Type 0
Leads built context [] script = (is_empty context.open_blocks ≡ true) × (context.whole ≡ script)
Leads built context (list ∷ rest) script = IsFine built context list × Leads built (after_by context list) rest script

-- a line with tokens: its head and the context behind it
pub said_is : (context : Context) (line : List ℕ) → has_tokens line ≡ true → said context line ≡ said_by context (tokens_in line)
said_is context line e = at_tokens context.begun (has_tokens line) e
  where
    at_tokens : (b t : Bool) → t ≡ true → (if b && t then Some (heading_of (tokens_in line)) else None) ≡ (if b then Some (heading_of (tokens_in line)) else None)
    at_tokens true t e = rw e refl
    at_tokens false t e = refl

pub said_none : (context : Context) (line : List ℕ) → has_tokens line ≡ false → said context line ≡ None
said_none context line e = at_none context.begun (has_tokens line) e
  where
    at_none : (b t : Bool) → t ≡ false → (if b && t then Some (heading_of (tokens_in line)) else None) ≡ None
    at_none true t e = rw e refl
    at_none false t e = refl

or_false : (a b : Bool) → b ≡ false → (a || b) ≡ a
or_false true b e = refl
or_false false b e = e

with_begun : (context : Context) (head other : Option Heading) (b c : Bool) → head ≡ other → b ≡ c → record (behind context head) { begun = b } ≡ record (behind context other) { begun = c }
with_begun context head other b c e f = rw e (rw f refl)

pub after_is : (context : Context) (line : List ℕ) → has_tokens line ≡ true → after context line ≡ after_by context (tokens_in line)
after_is context line e = with_begun context (said context line) (said_by context (tokens_in line)) (context.begun || has_tokens line) true (said_is context line e) (or_right context.begun (has_tokens line) e)

pub after_none : (context : Context) (line : List ℕ) → has_tokens line ≡ false → after context line ≡ context
after_none context line e = with_begun context (said context line) None (context.begun || has_tokens line) context.begun (said_none context line e) (or_false context.begun (has_tokens line) e)

-- no reason holds of nine
nine : (a b c d e f g h i : Bool) → a ≡ false → b ≡ false → c ≡ false → d ≡ false → e ≡ false → f ≡ false → g ≡ false → h ≡ false → i ≡ false → first_reason ((a, NoVersion) ∷ (b, BadByte) ∷ (c, BadText) ∷ (d, UnknownWord) ∷ (e, NotBuilt) ∷ (f, BadBlock) ∷ (g, BadOperand) ∷ (h, RepeatedName) ∷ (i, TooLarge) ∷ []) ≡ None
nine a b c d e f g h i a0 b0 c0 d0 e0 f0 g0 h0 i0 = rw a0 (rw b0 (rw c0 (rw d0 (rw e0 (rw f0 (rw g0 (rw h0 (rw i0 refl))))))))

-- the nine tests of a line, all false
pub record Passes (built : Word → Bool) (context : Context) (last : Bool) (line : List ℕ) : Type 0 where
  pub version : lacks_version context line ≡ false
  pub bytes : not (list_all is_line_byte line) ≡ false
  pub texts : is_none (tokens line) ≡ false
  pub word : has_unknown_word context line ≡ false
  pub known : is_some_with (is_unbuilt built) (keyword_said context line) ≡ false
  pub blocks : breaks_blocks context last line ≡ false
  pub spells : misspells context line ≡ false
  pub name : repeats_name context line ≡ false
  pub limit : passes_limit (after context line) ≡ false

-- each of the nine
nine_parts : (a b c d e f g h i : Bool) → first_reason ((a, NoVersion) ∷ (b, BadByte) ∷ (c, BadText) ∷ (d, UnknownWord) ∷ (e, NotBuilt) ∷ (f, BadBlock) ∷ (g, BadOperand) ∷ (h, RepeatedName) ∷ (i, TooLarge) ∷ []) ≡ None → (a ≡ false) × (b ≡ false) × (c ≡ false) × (d ≡ false) × (e ≡ false) × (f ≡ false) × (g ≡ false) × (h ≡ false) × (i ≡ false)
nine_parts false false false false false false false false false x = (refl, refl, refl, refl, refl, refl, refl, refl, refl)
nine_parts true b c d e f g h i x = cc
nine_parts false true c d e f g h i x = cc
nine_parts false false true d e f g h i x = cc
nine_parts false false false true e f g h i x = cc
nine_parts false false false false true f g h i x = cc
nine_parts false false false false false true g h i x = cc
nine_parts false false false false false false true h i x = cc
nine_parts false false false false false false false true i x = cc
nine_parts false false false false false false false false true x = cc

pub passes : (built : Word → Bool) (context : Context) (last : Bool) (line : List ℕ) → first_reason (faults built context last line) ≡ None → Passes built context last line
passes built context last line x =
    let p = nine_parts (lacks_version context line) (not (list_all is_line_byte line)) (is_none (tokens line)) (has_unknown_word context line) (is_some_with (is_unbuilt built) (keyword_said context line)) (breaks_blocks context last line) (misspells context line) (repeats_name context line) (passes_limit (after context line)) x in
    record { version = p.0; bytes = p.1; texts = p.2; word = p.3; known = p.4; blocks = p.5; spells = p.6; name = p.7; limit = p.8 }

pub no_reason : (built : Word → Bool) (context : Context) (last : Bool) (line : List ℕ) → Passes built context last line → first_reason (faults built context last line) ≡ None
no_reason built context last line p = nine (lacks_version context line) (not (list_all is_line_byte line)) (is_none (tokens line)) (has_unknown_word context line) (is_some_with (is_unbuilt built) (keyword_said context line)) (breaks_blocks context last line) (misspells context line) (repeats_name context line) (passes_limit (after context line)) p.version p.bytes p.texts p.word p.known p.blocks p.spells p.name p.limit

some_tokens : (o : Option (List Token)) → is_none o ≡ false → o ≡ Some (unwrap_or o [])
some_tokens None e = cc
some_tokens (Some list) e = refl

version_by : (begun t : Bool) (o p : Option (List Token)) → t ≡ true → o ≡ p → (not begun && (t && not (is_version o))) ≡ (not begun && not (is_version p))
version_by begun t o p e f = rw e (rw f refl)

-- a line with tokens against which nothing holds
pub fine_of : (built : Word → Bool) (context : Context) (last : Bool) (line : List ℕ) → has_tokens line ≡ true → Passes built context last line → IsFine built context (tokens_in line)
fine_of built context last line e p =
    let s : said context line ≡ said_by context (tokens_in line) = said_is context line e in
    let b = or_parts (is_some_with (λ keyword. not (may_stand context.open_blocks keyword)) (keyword_said context line)) (last && not (is_empty (after context line).open_blocks)) p.blocks in
    record {
      version = sym (version_by context.begun (has_tokens line) (tokens line) (Some (tokens_in line)) e (some_tokens (tokens line) p.texts)) ∙ p.version;
      word = subst (λ h. is_some_with (λ heading. is_none heading.keyword) h ≡ false) s p.word;
      known = subst (λ h. is_some_with (is_unbuilt built) (option_and_then (λ heading. heading.keyword) h) ≡ false) s p.known;
      stands = subst (λ h. is_some_with (λ keyword. not (may_stand context.open_blocks keyword)) (option_and_then (λ heading. heading.keyword) h) ≡ false) s b.0;
      spells = subst (λ h. is_some_with (λ heading. is_none (line_of heading)) h ≡ false) s p.spells;
      name = subst (λ h. is_some_with (names_again context.whole) (option_and_then line_of h) ≡ false) s p.name;
      limit = subst (λ c. passes_limit c ≡ false) (after_is context line e) p.limit;
    }

-- and the other way round
pub passes_of : (built : Word → Bool) (context : Context) (last : Bool) (line : List ℕ) → has_tokens line ≡ true → list_all is_line_byte line ≡ true → is_none (tokens line) ≡ false → (last && not (is_empty (after context line).open_blocks)) ≡ false → IsFine built context (tokens_in line) → Passes built context last line
passes_of built context last line e b t l f =
    let s : said_by context (tokens_in line) ≡ said context line = sym (said_is context line e) in
    record {
      version = version_by context.begun (has_tokens line) (tokens line) (Some (tokens_in line)) e (some_tokens (tokens line) t) ∙ f.version;
      bytes = rw b refl;
      texts = t;
      word = subst (λ h. is_some_with (λ heading. is_none heading.keyword) h ≡ false) s f.word;
      known = subst (λ h. is_some_with (is_unbuilt built) (option_and_then (λ heading. heading.keyword) h) ≡ false) s f.known;
      blocks = or_from (is_some_with (λ keyword. not (may_stand context.open_blocks keyword)) (keyword_said context line)) (last && not (is_empty (after context line).open_blocks)) (subst (λ h. is_some_with (λ keyword. not (may_stand context.open_blocks keyword)) (option_and_then (λ heading. heading.keyword) h) ≡ false) s f.stands) l;
      spells = subst (λ h. is_some_with (λ heading. is_none (line_of heading)) h ≡ false) s f.spells;
      name = subst (λ h. is_some_with (names_again context.whole) (option_and_then line_of h) ≡ false) s f.name;
      limit = subst (λ c. passes_limit c ≡ false) (sym (after_is context line e)) f.limit;
    }
