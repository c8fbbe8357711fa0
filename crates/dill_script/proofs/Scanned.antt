-- The tokens of a line: plain tokens of bytes that may stand in them, and texts of bytes.
use Rattle.std.proofs.Common.{◌≡◌, ℕ, ◌+◌, ◌-◌, ◌*◌, ◌<◌, ◌≤◌, List, [], ◌∷◌, Bool, true, false, ◌&&◌, ◌||◌, ◌==◌, nat_le, if◌then◌else◌, Option, Some, None, IfSome, refl, sym, ◌∙◌, arith, leb-true, ◌≢◌}
use Rattle.std.proofs.lemmas.Bool.{eqb-true, and_parts}
use Rattle.std.specs.List.{list_all}
use Rattle.dill_script.specs.Lines.{is_line_byte, is_blank}
use Rattle.dill_script.specs.Tokens.{Token, Plain, Text, Mark, Blank, Hash, Quote, Backslash, Other, Place, Between, InPlain, InText, InEscape, InHex, InHexOf, BehindText, mark_of, is_hex, hex_value, escaped, put, before, tokens, tokens_from}

-- a byte of a plain token
pub record IsWordByte (byte : ℕ) : Type 0 where
  pub line : is_line_byte byte ≡ true
  pub solid : is_blank byte ≡ false

abbrev pub AreWordBytes : List ℕ → Type 0
AreWordBytes [] = Unit {0}
AreWordBytes (byte ∷ bytes) = IsWordByte byte × AreWordBytes bytes

-- a plain token begins with no blank, `#` or `"`
abbrev pub IsWord : List ℕ → Type 0
IsWord [] = ⊥
IsWord (byte ∷ bytes) = (mark_of byte ≢ Hash) × (mark_of byte ≢ Quote) × IsWordByte byte × AreWordBytes bytes

abbrev pub AreBytes : List ℕ → Type 0
AreBytes [] = Unit {0}
AreBytes (byte ∷ bytes) = (byte < 256) × AreBytes bytes

abbrev pub IsToken : Token → Type 0
IsToken (Plain word) = IsWord word
IsToken (Text bytes) = AreBytes bytes

abbrev pub AreTokens : List Token → Type 0
AreTokens [] = Unit {0}
AreTokens (token ∷ rest) = IsToken token × AreTokens rest

-- tokens of which the first began before
abbrev pub InPlains : List Token → Type 0
InPlains [] = ⊥
InPlains (Plain word ∷ rest) = AreWordBytes word × AreTokens rest
InPlains (Text bytes ∷ rest) = ⊥

abbrev pub InTexts : List Token → Type 0
InTexts [] = ⊥
InTexts (Plain word ∷ rest) = ⊥
InTexts (Text bytes ∷ rest) = AreBytes bytes × AreTokens rest

abbrev From : Place → List Token → Type 0
From Between list = AreTokens list
From InPlain list = InPlains list
From _ list = InTexts list

put_text : (byte : ℕ) (o : Option (List Token)) → byte < 256 → IfSome o InTexts → IfSome (put byte o) InTexts
put_text byte None b h = tt
put_text byte (Some []) b h = absurd h
put_text byte (Some (Plain word ∷ rest)) b h = absurd h
put_text byte (Some (Text bytes ∷ rest)) b h = ((b, h.0), h.1)

put_word : (byte : ℕ) (o : Option (List Token)) → IsWordByte byte → IfSome o InPlains → IfSome (put byte o) InPlains
put_word byte None b h = tt
put_word byte (Some []) b h = absurd h
put_word byte (Some (Plain word ∷ rest)) b h = ((b, h.0), h.1)
put_word byte (Some (Text bytes ∷ rest)) b h = absurd h

-- the first byte of a plain token
put_first : (byte : ℕ) (o : Option (List Token)) → (mark_of byte ≢ Hash) → (mark_of byte ≢ Quote) → IsWordByte byte → IfSome o InPlains → IfSome (put byte o) AreTokens
put_first byte None n q b h = tt
put_first byte (Some []) n q b h = absurd h
put_first byte (Some (Plain word ∷ rest)) n q b h = ((n, q, b, h.0), h.1)
put_first byte (Some (Text bytes ∷ rest)) n q b h = absurd h

before_word : (o : Option (List Token)) → IfSome o AreTokens → IfSome (before (Plain []) o) InPlains
before_word None h = tt
before_word (Some list) h = (tt, h)

before_text : (o : Option (List Token)) → IfSome o AreTokens → IfSome (before (Text []) o) InTexts
before_text None h = tt
before_text (Some list) h = (tt, h)

-- a text that begins is a token
text_tokens : (o : Option (List Token)) → IfSome o InTexts → IfSome o AreTokens
text_tokens None h = tt
text_tokens (Some []) h = absurd h
text_tokens (Some (Plain word ∷ rest)) h = absurd h
text_tokens (Some (Text bytes ∷ rest)) h = h

or_cases : (a b : Bool) → (a || b) ≡ true → (a ≡ false → b ≡ true)
or_cases true b e f = cc
or_cases false b e f = e

line_byte_small : (byte : ℕ) (b : Bool) → byte == 9 ≡ b → (b || (nat_le 32 byte && nat_le byte 126)) ≡ true → byte < 256
line_byte_small byte true e f = let h : byte ≡ 9 = eqb-true byte 9 e in omega arith
line_byte_small byte false e f = let h : byte ≤ 126 = leb-true byte 126 (and_parts (nat_le 32 byte) (nat_le byte 126) f).1 in omega arith

small_byte : (byte : ℕ) → is_line_byte byte ≡ true → byte < 256
small_byte byte e = line_byte_small byte (byte == 9) refl e

-- what an escape means is a byte
escaped_small : (byte : ℕ) → byte < 256 → IfSome (escaped byte) (λ meant. meant < 256)
escaped_small byte b = by_tests ((byte == 34) || (byte == 92)) (byte == 110) (byte == 114) (byte == 116)
  where
    by_tests : (p q r s : Bool) → IfSome (if p then Some byte else (if q then Some 10 else (if r then Some 13 else (if s then Some 9 else None)))) (λ meant. meant < 256)
    by_tests true q r s = b
    by_tests false true r s = omega arith
    by_tests false false true s = omega arith
    by_tests false false false true = omega arith
    by_tests false false false false = tt

blank_test : (b : Bool) (x m : Mark) → (if b then Blank else x) ≡ m → (m ≡ Blank → ⊥) → b ≡ false
blank_test true x m e n = absurd (n (sym e))
blank_test false x m e n = refl

solid_mark : (byte : ℕ) (m : Mark) → mark_of byte ≡ m → (m ≡ Blank → ⊥) → is_blank byte ≡ false
solid_mark byte m e n = blank_test (is_blank byte) (if byte == 35 then Hash else (if byte == 34 then Quote else (if byte == 92 then Backslash else Other))) m e n

-- the tokens behind a byte between tokens, in a text and in an escape
abbrev pub between_by : ℕ → List ℕ → Mark → Option (List Token)
between_by byte bytes m = elim m [ Blank ↦ tokens_from Between bytes | Hash ↦ Some [] | Quote ↦ tokens_from InText bytes | _ ↦ put byte (tokens_from InPlain bytes) ]

abbrev pub keyword_by : ℕ → List ℕ → Bool → Option (List Token)
keyword_by byte bytes b = elim b [ true ↦ before (Plain []) (tokens_from Between bytes) | false ↦ put byte (tokens_from InPlain bytes) ]

abbrev pub text_by : ℕ → List ℕ → Mark → Option (List Token)
text_by byte bytes m = elim m [ Quote ↦ tokens_from BehindText bytes | Backslash ↦ tokens_from InEscape bytes | _ ↦ put byte (tokens_from InText bytes) ]

abbrev pub meant_by : List ℕ → Option ℕ → Option (List Token)
meant_by bytes o = elim o [ Some meant ↦ put meant (tokens_from InText bytes) | None ↦ None ]

abbrev escape_by : ℕ → List ℕ → Bool → Option (List Token)
escape_by byte bytes b = elim b [ true ↦ tokens_from InHex bytes | false ↦ meant_by bytes (escaped byte) ]

abbrev pub hex_by : ℕ → List ℕ → Bool → Option (List Token)
hex_by byte bytes b = elim b [ true ↦ tokens_from (InHexOf (hex_value byte)) bytes | false ↦ None ]

abbrev pub low_by : ℕ → ℕ → List ℕ → Bool → Option (List Token)
low_by high byte bytes b = elim b [ true ↦ put (16 * high + hex_value byte) (tokens_from InText bytes) | false ↦ None ]

abbrev behind_by : List ℕ → Bool → Option (List Token)
behind_by bytes b = elim b [ true ↦ before (Text []) (tokens_from Between bytes) | false ↦ None ]

between_is : (byte : ℕ) (bytes : List ℕ) (m : Mark) → mark_of byte ≡ m → is_line_byte byte ≡ true → IfSome (tokens_from Between bytes) AreTokens → IfSome (tokens_from InText bytes) InTexts → IfSome (tokens_from InPlain bytes) InPlains → IfSome (between_by byte bytes m) AreTokens
between_is byte bytes Blank e l h t w = h
between_is byte bytes Hash e l h t w = tt
between_is byte bytes Quote e l h t w = text_tokens (tokens_from InText bytes) t
between_is byte bytes Backslash e l h t w = put_first byte (tokens_from InPlain bytes) (λ x. let y : Backslash ≡ Hash = sym e ∙ x in cc) (λ x. let y : Backslash ≡ Quote = sym e ∙ x in cc) (record { line = l; solid = solid_mark byte Backslash e (λ x. cc) }) w
between_is byte bytes Other e l h t w = put_first byte (tokens_from InPlain bytes) (λ x. let y : Other ≡ Hash = sym e ∙ x in cc) (λ x. let y : Other ≡ Quote = sym e ∙ x in cc) (record { line = l; solid = solid_mark byte Other e (λ x. cc) }) w

word_is : (byte : ℕ) (bytes : List ℕ) (b : Bool) → is_blank byte ≡ b → is_line_byte byte ≡ true → IfSome (tokens_from Between bytes) AreTokens → IfSome (tokens_from InPlain bytes) InPlains → IfSome (keyword_by byte bytes b) InPlains
word_is byte bytes true e l h w = before_word (tokens_from Between bytes) h
word_is byte bytes false e l h w = put_word byte (tokens_from InPlain bytes) (record { line = l; solid = e }) w

text_is : (byte : ℕ) (bytes : List ℕ) (m : Mark) → byte < 256 → IfSome (tokens_from InText bytes) InTexts → IfSome (tokens_from InEscape bytes) InTexts → IfSome (tokens_from BehindText bytes) InTexts → IfSome (text_by byte bytes m) InTexts
text_is byte bytes Quote l t x h = h
text_is byte bytes Backslash l t x h = x
text_is byte bytes Blank l t x h = put_text byte (tokens_from InText bytes) l t
text_is byte bytes Hash l t x h = put_text byte (tokens_from InText bytes) l t
text_is byte bytes Other l t x h = put_text byte (tokens_from InText bytes) l t

meant_is : (bytes : List ℕ) (o : Option ℕ) → IfSome o (λ meant. meant < 256) → IfSome (tokens_from InText bytes) InTexts → IfSome (meant_by bytes o) InTexts
meant_is bytes None h t = tt
meant_is bytes (Some meant) h t = put_text meant (tokens_from InText bytes) h t

escape_is : (byte : ℕ) (bytes : List ℕ) (b : Bool) → byte < 256 → IfSome (tokens_from InText bytes) InTexts → IfSome (tokens_from InHex bytes) InTexts → IfSome (escape_by byte bytes b) InTexts
escape_is byte bytes true l t x = x
escape_is byte bytes false l t x = meant_is bytes (escaped byte) (escaped_small byte l) t

-- a digit of base 16 is below 16
hex_small : (byte : ℕ) → is_hex byte ≡ true → hex_value byte < 16
hex_small byte e = by_range (nat_le 48 byte) (nat_le byte 57) (nat_le 97 byte) (nat_le byte 102) (nat_le 65 byte) (nat_le byte 70) refl refl refl refl refl refl e
  where
    by_range : (a b c d f g : Bool) → nat_le 48 byte ≡ a → nat_le byte 57 ≡ b → nat_le 97 byte ≡ c → nat_le byte 102 ≡ d → nat_le 65 byte ≡ f → nat_le byte 70 ≡ g → ((a && b) || ((c && d) || (f && g))) ≡ true → (if b then byte - 48 else (if g then byte - 55 else byte - 87)) < 16
    by_range a true c d f g a0 b0 c0 d0 f0 g0 x = let h : byte ≤ 57 = leb-true byte 57 b0 in omega arith
    by_range a false c d f true a0 b0 c0 d0 f0 g0 x = let h : byte ≤ 70 = leb-true byte 70 g0 in omega arith
    by_range true false true true f false a0 b0 c0 d0 f0 g0 x = let h : byte ≤ 102 = leb-true byte 102 d0 in omega arith
    by_range false false true true f false a0 b0 c0 d0 f0 g0 x = let h : byte ≤ 102 = leb-true byte 102 d0 in omega arith
    by_range true false false d true false a0 b0 c0 d0 f0 g0 x = cc
    by_range true false false d false false a0 b0 c0 d0 f0 g0 x = cc
    by_range false false false d true false a0 b0 c0 d0 f0 g0 x = cc
    by_range false false false d false false a0 b0 c0 d0 f0 g0 x = cc
    by_range true false true false true false a0 b0 c0 d0 f0 g0 x = cc
    by_range true false true false false false a0 b0 c0 d0 f0 g0 x = cc
    by_range false false true false true false a0 b0 c0 d0 f0 g0 x = cc
    by_range false false true false false false a0 b0 c0 d0 f0 g0 x = cc

hex_is : (byte : ℕ) (bytes : List ℕ) (b : Bool) → is_hex byte ≡ b → (hex_value byte < 16 → IfSome (tokens_from (InHexOf (hex_value byte)) bytes) InTexts) → IfSome (hex_by byte bytes b) InTexts
hex_is byte bytes true e h = h (hex_small byte e)
hex_is byte bytes false e h = tt

low_is : (high byte : ℕ) (bytes : List ℕ) (b : Bool) → is_hex byte ≡ b → high < 16 → IfSome (tokens_from InText bytes) InTexts → IfSome (low_by high byte bytes b) InTexts
low_is high byte bytes true e l t =
    let h : hex_value byte < 16 = hex_small byte e in
    put_text (16 * high + hex_value byte) (tokens_from InText bytes) (sum_small high (hex_value byte) l h) t
  where
    sum_small : (m n : ℕ) → m < 16 → n < 16 → 16 * m + n < 256
    sum_small m n k j = omega arith
low_is high byte bytes false e l t = tt

behind_is : (bytes : List ℕ) (b : Bool) → IfSome (tokens_from Between bytes) AreTokens → IfSome (behind_by bytes b) InTexts
behind_is bytes true h = before_text (tokens_from Between bytes) h
behind_is bytes false h = tt

-- what is met on the way through a line, wherever it begins
pub record Scans (bytes : List ℕ) : Type 0 where
  pub between : IfSome (tokens_from Between bytes) AreTokens
  pub word : IfSome (tokens_from InPlain bytes) InPlains
  pub text : IfSome (tokens_from InText bytes) InTexts
  pub escape : IfSome (tokens_from InEscape bytes) InTexts
  pub hex : IfSome (tokens_from InHex bytes) InTexts
  pub low : (high : ℕ) → high < 16 → IfSome (tokens_from (InHexOf high) bytes) InTexts
  pub behind : IfSome (tokens_from BehindText bytes) InTexts

pub scans : (bytes : List ℕ) → list_all is_line_byte bytes ≡ true → Scans bytes
scans [] e = record { between = tt; word = (tt, tt); text = tt; escape = tt; hex = tt; low = λ high l. tt; behind = (tt, tt) }
scans (byte ∷ bytes) e =
    let p = and_parts (is_line_byte byte) (list_all is_line_byte bytes) e in
    let s : Scans bytes = scans bytes p.1 in
    let l : byte < 256 = small_byte byte p.0 in
    record {
      between = between_is byte bytes (mark_of byte) refl p.0 s.between s.text s.word;
      word = word_is byte bytes (is_blank byte) refl p.0 s.between s.word;
      text = text_is byte bytes (mark_of byte) l s.text s.escape s.behind;
      escape = escape_is byte bytes (byte == 120) l s.text s.hex;
      hex = hex_is byte bytes (is_hex byte) refl (λ h. s.low (hex_value byte) h);
      low = λ high h. low_is high byte bytes (is_hex byte) refl h s.text;
      behind = behind_is bytes (is_blank byte) s.between;
    }

-- the tokens of a line whose bytes may stand there
pub tokens_are : (line : List ℕ) → list_all is_line_byte line ≡ true → IfSome (tokens line) AreTokens
tokens_are line e = (scans line e).between
