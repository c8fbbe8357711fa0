-- The canonical text of what was read spells it.
use Rattle.std.proofs.Common.{◌≡◌, ◌≢◌, ℕ, ◌/◌, ◌%◌, ◌<◌, ◌≤◌, List, [], ◌∷◌, ◌++◌, map, flat_map, unwrap_or, Bool, true, false, not, ◌&&◌, ◌||◌, ◌==◌, nat_le, if◌then◌else◌, Option, Some, None, IfSome, is_some, refl, sym, ap, ◌∙◌, subst, arith, codes, append_assoc, append-nil}
use Rattle.std.proofs.lemmas.Bool.{eqb-true, le-leb, leb-true, and_from, and_parts}
use Rattle.std.specs.List.{list_all}
use Rattle.dill_script.specs.Blocks.{is_empty}
use Rattle.dill_script.specs.Lines.{is_line_byte, is_blank, has_tokens, longer, pieces, without_cr, lines_of}
use Rattle.dill_script.specs.Printing.{hex_digit, byte_text, token_text, line_text, script_lines, canonical}
use Rattle.dill_script.specs.Spelling.{tokens_in, spoken, Spells, CanonicalSpells, ReadsBack}
use Rattle.dill_script.specs.Tokens.{Token, Plain, Text, Mark, Blank, Hash, Quote, Backslash, Other, InPlain, InText, mark_of, put, tokens, tokens_from}
use Rattle.dill_script.proofs.Judging.{spoken_is}
use Rattle.dill_script.proofs.Printed.{body, body_scanned, digit_is}
use Rattle.dill_script.proofs.Scanned.{AreWordBytes, AreBytes, IsToken, AreTokens, InTexts, scans, tokens_are, between_by}
use Rattle.dill_script.proofs.Spellings.{reads_spelling, reads_each}

-- a line of tokens that may stand, with one at least
pub record IsLine (list : List Token) : Type 0 where
  pub tokens : AreTokens list
  pub some : is_empty list ≡ false

abbrev AreLines : List (List Token) → Type 0
AreLines [] = Unit {0}
AreLines (list ∷ rest) = IsLine list × AreLines rest

-- a line that has tokens is read as some
put_some : (byte : ℕ) (o : Option (List Token)) → IfSome (put byte o) (λ list. is_empty list ≡ false)
put_some byte None = tt
put_some byte (Some []) = tt
put_some byte (Some (Plain word ∷ rest)) = refl
put_some byte (Some (Text bytes ∷ rest)) = refl

texts_some : (o : Option (List Token)) → IfSome o InTexts → IfSome o (λ list. is_empty list ≡ false)
texts_some None h = tt
texts_some (Some []) h = absurd h
texts_some (Some (token ∷ rest)) h = refl

marked_some : (byte : ℕ) (bytes : List ℕ) (m : Mark) → (m ≡ Blank → ⊥) → (m ≡ Hash → ⊥) → IfSome (tokens_from InText bytes) InTexts → IfSome (between_by byte bytes m) (λ list. is_empty list ≡ false)
marked_some byte bytes Blank b h t = absurd (b refl)
marked_some byte bytes Hash b h t = absurd (h refl)
marked_some byte bytes Quote b h t = texts_some (tokens_from InText bytes) t
marked_some byte bytes Backslash b h t = put_some byte (tokens_from InPlain bytes)
marked_some byte bytes Other b h t = put_some byte (tokens_from InPlain bytes)

no_blank : (a b c d : Bool) → a ≡ false → (if a then Blank else (if b then Hash else (if c then Quote else (if d then Backslash else Other)))) ≡ Blank → ⊥
no_blank true b c d e f = cc
no_blank false true c d e f = cc
no_blank false false true d e f = cc
no_blank false false false true e f = cc
no_blank false false false false e f = cc

no_hash : (a b c d : Bool) → b ≡ false → (if a then Blank else (if b then Hash else (if c then Quote else (if d then Backslash else Other)))) ≡ Hash → ⊥
no_hash true b c d e f = cc
no_hash false true c d e f = cc
no_hash false false true d e f = cc
no_hash false false false true e f = cc
no_hash false false false false e f = cc

not_true : (b : Bool) → not b ≡ true → b ≡ false
not_true true e = cc
not_true false e = refl

some_step : (byte : ℕ) (bytes : List ℕ) (b : Bool) → is_blank byte ≡ b → (if b then has_tokens bytes else not (byte == 35)) ≡ true → IfSome (tokens_from InText bytes) InTexts → (has_tokens bytes ≡ true → IfSome (tokens bytes) (λ list. is_empty list ≡ false)) → IfSome (tokens (byte ∷ bytes)) (λ list. is_empty list ≡ false)
some_step byte bytes true e f t h = subst (λ m. IfSome (between_by byte bytes m) (λ list. is_empty list ≡ false)) (ap (λ b. if b then Blank else (if byte == 35 then Hash else (if byte == 34 then Quote else (if byte == 92 then Backslash else Other)))) (sym e)) (h f)
some_step byte bytes false e f t h = marked_some byte bytes (mark_of byte) (no_blank (is_blank byte) (byte == 35) (byte == 34) (byte == 92) e) (no_hash (is_blank byte) (byte == 35) (byte == 34) (byte == 92) (not_true (byte == 35) f)) t

tokens_some : (line : List ℕ) → list_all is_line_byte line ≡ true → has_tokens line ≡ true → IfSome (tokens line) (λ list. is_empty list ≡ false)
tokens_some [] c e = cc
tokens_some (byte ∷ bytes) c e =
    let p = and_parts (is_line_byte byte) (list_all is_line_byte bytes) c in
    some_step byte bytes (is_blank byte) refl e (scans bytes p.1).text (λ h. tokens_some bytes p.1 h)

line_from : (o : Option (List Token)) → is_some o ≡ true → IfSome o AreTokens → IfSome o (λ list. is_empty list ≡ false) → IsLine (unwrap_or o [])
line_from None e t s = cc
line_from (Some list) e t s = record { tokens = t; some = s }

lines_step : (line : List ℕ) (rest : List (List ℕ)) (b : Bool) → has_tokens line ≡ b → list_all is_line_byte line ≡ true → is_some (tokens line) ≡ true → AreLines (spoken rest) → AreLines (spoken (line ∷ rest))
lines_step line rest true e c t l = subst AreLines (sym (spoken_is line rest true e)) (line_from (tokens line) t (tokens_are line c) (tokens_some line c e), l)
lines_step line rest false e c t l = subst AreLines (sym (spoken_is line rest false e)) l

-- clean lines speak lines of tokens
spoken_are : (lines : List (List ℕ)) → list_all (λ line. list_all is_line_byte line) lines ≡ true → list_all (λ line. is_some (tokens line)) lines ≡ true → AreLines (spoken lines)
spoken_are [] c t = tt
spoken_are (line ∷ rest) c t =
    let b = and_parts (list_all is_line_byte line) (list_all (λ x. list_all is_line_byte x) rest) c in
    let s = and_parts (is_some (tokens line)) (list_all (λ x. is_some (tokens x)) rest) t in
    lines_step line rest (has_tokens line) refl b.0 s.0 (spoken_are rest b.1 s.1)

-- bytes of lines, and what is appended
all_append : (xs ys : List ℕ) → list_all is_line_byte xs ≡ true → list_all is_line_byte ys ≡ true → list_all is_line_byte (xs ++ ys) ≡ true
all_append [] ys e f = f
all_append (x ∷ xs) ys e f = let p = and_parts (is_line_byte x) (list_all is_line_byte xs) e in and_from (is_line_byte x) (list_all is_line_byte (xs ++ ys)) p.0 (all_append xs ys p.1 f)

word_bytes : (bytes : List ℕ) → AreWordBytes bytes → list_all is_line_byte bytes ≡ true
word_bytes [] w = refl
word_bytes (byte ∷ bytes) w = and_from (is_line_byte byte) (list_all is_line_byte bytes) w.0.line (word_bytes bytes w.1)

line_byte_in : (byte : ℕ) → 32 ≤ byte → byte ≤ 126 → is_line_byte byte ≡ true
line_byte_in byte l h = or_right (byte == 9) (nat_le 32 byte && nat_le byte 126) (and_from (nat_le 32 byte) (nat_le byte 126) (le-leb 32 byte l) (le-leb byte 126 h))
  where
    or_right : (a b : Bool) → b ≡ true → (a || b) ≡ true
    or_right true b e = refl
    or_right false b e = e

-- a digit of base 16 may stand in a line
hex_line : (byte : ℕ) (a b c d f g : Bool) → nat_le 48 byte ≡ a → nat_le byte 57 ≡ b → nat_le 97 byte ≡ c → nat_le byte 102 ≡ d → nat_le 65 byte ≡ f → nat_le byte 70 ≡ g → ((a && b) || ((c && d) || (f && g))) ≡ true → is_line_byte byte ≡ true
hex_line byte true true c d f g a0 b0 c0 d0 f0 g0 x = let l : 48 ≤ byte = leb-true 48 byte a0 in let h : byte ≤ 57 = leb-true byte 57 b0 in line_byte_in byte (omega arith) (omega arith)
hex_line byte true false true true f g a0 b0 c0 d0 f0 g0 x = let l : 97 ≤ byte = leb-true 97 byte c0 in let h : byte ≤ 102 = leb-true byte 102 d0 in line_byte_in byte (omega arith) (omega arith)
hex_line byte false b true true f g a0 b0 c0 d0 f0 g0 x = let l : 97 ≤ byte = leb-true 97 byte c0 in let h : byte ≤ 102 = leb-true byte 102 d0 in line_byte_in byte (omega arith) (omega arith)
hex_line byte a b true false true true a0 b0 c0 d0 f0 g0 x = let l : 65 ≤ byte = leb-true 65 byte f0 in let h : byte ≤ 70 = leb-true byte 70 g0 in line_byte_in byte (omega arith) (omega arith)
hex_line byte a b false d true true a0 b0 c0 d0 f0 g0 x = let l : 65 ≤ byte = leb-true 65 byte f0 in let h : byte ≤ 70 = leb-true byte 70 g0 in line_byte_in byte (omega arith) (omega arith)
hex_line byte true false true false true false a0 b0 c0 d0 f0 g0 x = cc
hex_line byte true false true false false g a0 b0 c0 d0 f0 g0 x = cc
hex_line byte true false false d true false a0 b0 c0 d0 f0 g0 x = cc
hex_line byte true false false d false g a0 b0 c0 d0 f0 g0 x = cc
hex_line byte false b true false true false a0 b0 c0 d0 f0 g0 x = cc
hex_line byte false b true false false g a0 b0 c0 d0 f0 g0 x = cc
hex_line byte false b false d true false a0 b0 c0 d0 f0 g0 x = cc
hex_line byte false b false d false g a0 b0 c0 d0 f0 g0 x = cc

digit_line : (d : ℕ) → d < 16 → is_line_byte (hex_digit d) ≡ true
digit_line d l =
    let h : ℕ = hex_digit d in
    hex_line h (nat_le 48 h) (nat_le h 57) (nat_le 97 h) (nat_le h 102) (nat_le 65 h) (nat_le h 70) refl refl refl refl refl refl (digit_is d l).is

-- a byte of a text is written in bytes of lines
byte_line : (byte : ℕ) (a b c d e f : Bool) → (nat_le 32 byte && nat_le byte 126) ≡ f → byte < 256 → list_all is_line_byte (if a then codes "\\\"" else (if b then codes "\\\\" else (if c then codes "\\n" else (if d then codes "\\r" else (if e then codes "\\t" else (if f then byte ∷ [] else codes "\\x" ++ hex_digit (byte / 16) ∷ hex_digit (byte % 16) ∷ [])))))) ≡ true
byte_line byte true b c d e f x l = refl
byte_line byte false true c d e f x l = refl
byte_line byte false false true d e f x l = refl
byte_line byte false false false true e f x l = refl
byte_line byte false false false false true f x l = refl
byte_line byte false false false false false true x l =
    let p = and_parts (nat_le 32 byte) (nat_le byte 126) x in
    and_from (is_line_byte byte) true (line_byte_in byte (leb-true 32 byte p.0) (leb-true byte 126 p.1)) refl
byte_line byte false false false false false false x l = all_append (92 ∷ 120 ∷ []) (hex_digit (byte / 16) ∷ hex_digit (byte % 16) ∷ []) refl (and_from (is_line_byte (hex_digit (byte / 16))) (is_line_byte (hex_digit (byte % 16)) && true) (digit_line (byte / 16) (omega arith)) (and_from (is_line_byte (hex_digit (byte % 16))) true (digit_line (byte % 16) (omega arith)) refl))

text_line : (bytes : List ℕ) → AreBytes bytes → list_all is_line_byte (flat_map byte_text bytes) ≡ true
text_line [] b = refl
text_line (byte ∷ bytes) b = all_append (byte_text byte) (flat_map byte_text bytes) (byte_line byte (byte == 34) (byte == 92) (byte == 10) (byte == 13) (byte == 9) (nat_le 32 byte && nat_le byte 126) refl b.0) (text_line bytes b.1)

token_line : (token : Token) → IsToken token → list_all is_line_byte (token_text token) ≡ true
token_line (Plain []) t = absurd t
token_line (Plain (byte ∷ bytes)) t = and_from (is_line_byte byte) (list_all is_line_byte bytes) t.2.line (word_bytes bytes t.3)
token_line (Text bytes) t = all_append (flat_map byte_text bytes) (34 ∷ []) (text_line bytes t) refl

body_line : (list : List Token) → AreTokens list → list_all is_line_byte (body list) ≡ true
body_line [] t = refl
body_line (token ∷ []) t = token_line token t.0
body_line (token ∷ next ∷ rest) t = all_append (token_text token) (32 ∷ body (next ∷ rest)) (token_line token t.0) (body_line (next ∷ rest) t.1)

-- the first byte of a line of tokens is none of a comment
unmarked : (byte : ℕ) (a b : Bool) → is_blank byte ≡ a → byte == 35 ≡ b → a ≡ false → (mark_of byte ≢ Hash) → (if a then true else not b) ≡ true
unmarked byte true b e f g h = cc
unmarked byte false true e f g h = absurd (h (ap (λ x. if x then Blank else (if byte == 35 then Hash else (if byte == 34 then Quote else (if byte == 92 then Backslash else Other)))) e ∙ ap (λ x. if x then Hash else (if byte == 34 then Quote else (if byte == 92 then Backslash else Other))) f))
unmarked byte false false e f g h = refl

started : (byte : ℕ) (bytes : List ℕ) (a b : Bool) → is_blank byte ≡ a → byte == 35 ≡ b → a ≡ false → (mark_of byte ≢ Hash) → (if a then has_tokens bytes else not b) ≡ true
started byte bytes true b e f g h = cc
started byte bytes false b e f g h = unmarked byte false b e f g h

token_there : (token : Token) (tail : List ℕ) → IsToken token → has_tokens (token_text token ++ tail) ≡ true
token_there (Plain []) tail t = absurd t
token_there (Plain (byte ∷ bytes)) tail t = started byte (bytes ++ tail) (is_blank byte) (byte == 35) refl refl t.2.solid t.0
token_there (Text bytes) tail t = refl

body_there : (list : List Token) → IsLine list → has_tokens (body list) ≡ true
body_there [] l = let x : true ≡ false = l.some in cc
body_there (token ∷ []) l = ap has_tokens (sym (append-nil (token_text token))) ∙ token_there token [] l.tokens.0
body_there (token ∷ next ∷ rest) l = token_there token (32 ∷ body (next ∷ rest)) l.tokens.0

-- a LF ends a line
pieces_step : (byte : ℕ) (bytes rest : List ℕ) (b : Bool) → byte == 10 ≡ b → b ≡ false → pieces (bytes ++ 10 ∷ rest) ≡ bytes ∷ pieces rest → (if b then [] ∷ pieces (bytes ++ 10 ∷ rest) else longer byte (pieces (bytes ++ 10 ∷ rest))) ≡ (byte ∷ bytes) ∷ pieces rest
pieces_step byte bytes rest true e f h = cc
pieces_step byte bytes rest false e f h = ap (longer byte) h

no_line_byte : (n : ℕ) → is_line_byte n ≡ false → (byte : ℕ) (b : Bool) → byte == n ≡ b → is_line_byte byte ≡ true → b ≡ false
no_line_byte n m byte true e l = let x : is_line_byte n ≡ true = subst (λ k. is_line_byte k ≡ true) (eqb-true byte n e) l in cc
no_line_byte n m byte false e l = refl

line_piece : (bytes rest : List ℕ) → list_all is_line_byte bytes ≡ true → pieces (bytes ++ 10 ∷ rest) ≡ bytes ∷ pieces rest
line_piece [] rest e = refl
line_piece (byte ∷ bytes) rest e =
    let p = and_parts (is_line_byte byte) (list_all is_line_byte bytes) e in
    pieces_step byte bytes rest (byte == 10) refl (no_line_byte 10 refl byte (byte == 10) refl p.0) (line_piece bytes rest p.1)

last_kept : (byte : ℕ) (b : Bool) → b ≡ false → (if b then [] else byte ∷ []) ≡ byte ∷ []
last_kept byte true e = cc
last_kept byte false e = refl

line_kept : (bytes : List ℕ) → list_all is_line_byte bytes ≡ true → without_cr bytes ≡ bytes
line_kept [] e = refl
line_kept (byte ∷ []) e = last_kept byte (byte == 13) (no_line_byte 13 refl byte (byte == 13) refl (and_parts (is_line_byte byte) true e).0)
line_kept (byte ∷ next ∷ rest) e = ap (λ x. byte ∷ x) (line_kept (next ∷ rest) (and_parts (is_line_byte byte) (list_all is_line_byte (next ∷ rest)) e).1)

same_lines : (x y : List ℕ) (xs ys : List (List ℕ)) → x ≡ y → xs ≡ ys → x ∷ xs ≡ y ∷ ys
same_lines x y xs ys e f = cc

-- the lines of a text of tokens
printed_lines : (lists : List (List Token)) → AreLines lists → lines_of (flat_map line_text lists) ≡ map body lists
printed_lines [] l = refl
printed_lines (list ∷ rest) l =
    let b : list_all is_line_byte (body list) ≡ true = body_line list l.0.tokens in
    ap (map without_cr) (ap pieces (append_assoc (body list) (10 ∷ []) (flat_map line_text rest)) ∙ line_piece (body list) (flat_map line_text rest) b)
    ∙ same_lines (without_cr (body list)) (body list) (lines_of (flat_map line_text rest)) (map body rest) (line_kept (body list) b) (printed_lines rest l.1)

bodies_clean : (lists : List (List Token)) → AreLines lists → list_all (λ line. list_all is_line_byte line) (map body lists) ≡ true
bodies_clean [] l = refl
bodies_clean (list ∷ rest) l = and_from (list_all is_line_byte (body list)) (list_all (λ line. list_all is_line_byte line) (map body rest)) (body_line list l.0.tokens) (bodies_clean rest l.1)

bodies_read : (lists : List (List Token)) → AreLines lists → list_all (λ line. is_some (tokens line)) (map body lists) ≡ true
bodies_read [] l = refl
bodies_read (list ∷ rest) l = and_from (is_some (tokens (body list))) (list_all (λ line. is_some (tokens line)) (map body rest)) (ap is_some (body_scanned list l.0.tokens)) (bodies_read rest l.1)

same_token_lines : (x y : List Token) (xs ys : List (List Token)) → x ≡ y → xs ≡ ys → x ∷ xs ≡ y ∷ ys
same_token_lines x y xs ys e f = cc

bodies_spoken : (lists : List (List Token)) → AreLines lists → spoken (map body lists) ≡ lists
bodies_spoken [] l = refl
bodies_spoken (list ∷ rest) l = spoken_is (body list) (map body rest) true (body_there list l.0) ∙ same_token_lines (tokens_in (body list)) list (spoken (map body rest)) rest (ap (λ o. unwrap_or o []) (body_scanned list l.0.tokens)) (bodies_spoken rest l.1)

pub canonical_spells : CanonicalSpells
canonical_spells built text script e =
    let s : Spells script text = reads_spelling built text script e in
    let l : AreLines (script_lines script) = subst AreLines s.lines (spoken_are (lines_of text) s.bytes s.texts) in
    let p : map body (script_lines script) ≡ lines_of (canonical script) = sym (printed_lines (script_lines script) l) in
    record {
      bytes = subst (λ x. list_all (λ line. list_all is_line_byte line) x ≡ true) p (bodies_clean (script_lines script) l);
      texts = subst (λ x. list_all (λ line. is_some (tokens line)) x ≡ true) p (bodies_read (script_lines script) l);
      lines = subst (λ x. spoken x ≡ script_lines script) p (bodies_spoken (script_lines script) l);
    }

-- so it is read as the same
pub reads_back : ReadsBack
reads_back built text script e small = reads_each built text (canonical script) script e (canonical_spells built text script e) small
