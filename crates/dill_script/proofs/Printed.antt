-- The text of tokens is scanned as these tokens.
use Rattle.std.proofs.Common.{◌≡◌, ◌≢◌, ℕ, zero, suc, ◌+◌, ◌*◌, ◌/◌, ◌%◌, ◌<◌, List, [], ◌∷◌, ◌++◌, map, flat_map, Bool, true, false, ◌&&◌, ◌==◌, nat_le, if◌then◌else◌, Option, Some, refl, sym, ap, ◌∙◌, subst, arith, codes, append_assoc, append-nil}
use Rattle.std.proofs.lemmas.Bool.{eqb-true, eq-eqb, and_parts}
use Rattle.std.specs.List.{join_with_byte}
use Rattle.dill_script.specs.Lines.{is_blank}
use Rattle.dill_script.specs.Printing.{hex_digit, byte_text, token_text}
use Rattle.dill_script.specs.Tokens.{Token, Plain, Text, Mark, Blank, Hash, Quote, Backslash, Other, Between, InPlain, InText, BehindText, mark_of, is_hex, hex_value, put, before, tokens, tokens_from}
use Rattle.dill_script.proofs.Scanned.{AreWordBytes, AreBytes, IsToken, AreTokens, between_by, keyword_by, text_by, hex_by, low_by}

-- bytes at the front of the first token
abbrev put_all : List ℕ → Option (List Token) → Option (List Token)
put_all [] o = o
put_all (byte ∷ bytes) o = put byte (put_all bytes o)

put_words : (bytes : List ℕ) (rest : List Token) → put_all bytes (Some (Plain [] ∷ rest)) ≡ Some (Plain bytes ∷ rest)
put_words [] rest = refl
put_words (byte ∷ bytes) rest = ap (put byte) (put_words bytes rest)

put_texts : (bytes : List ℕ) (rest : List Token) → put_all bytes (Some (Text [] ∷ rest)) ≡ Some (Text bytes ∷ rest)
put_texts [] rest = refl
put_texts (byte ∷ bytes) rest = ap (put byte) (put_texts bytes rest)

-- the bytes of a plain token
word_scanned : (bytes tail : List ℕ) → AreWordBytes bytes → tokens_from InPlain (bytes ++ tail) ≡ put_all bytes (tokens_from InPlain tail)
word_scanned [] tail w = refl
word_scanned (byte ∷ bytes) tail w = ap (keyword_by byte (bytes ++ tail)) w.0.solid ∙ ap (put byte) (word_scanned bytes tail w.1)

-- each digit of base 16 is one, and means what it stands for
abbrev hex_holds : ℕ → Bool
hex_holds d = is_hex (hex_digit d) && (hex_value (hex_digit d) == d)

abbrev holds_below : ℕ → Bool
holds_below zero = true
holds_below (suc n) = hex_holds n && holds_below n

not_same : (a b : ℕ) → a == b ≡ false → a ≡ b → ⊥
not_same a b g h = let k : a == b ≡ true = eq-eqb a b h in cc

less : (a b : ℕ) → a < suc b → a == b ≡ false → a < b
less a b g h = let k : a ≡ b → ⊥ = not_same a b h in omega arith

last_holds : (n d : ℕ) (b : Bool) → d == n ≡ b → hex_holds n ≡ true → d < suc n → (d < n → hex_holds d ≡ true) → hex_holds d ≡ true
last_holds n d true e h l f = subst (λ m. hex_holds m ≡ true) (sym (eqb-true d n e)) h
last_holds n d false e h l f = f (less d n l e)

below_holds : (n d : ℕ) → holds_below n ≡ true → d < n → hex_holds d ≡ true
below_holds zero d e l = absurd (omega arith)
below_holds (suc n) d e l =
    let p = and_parts (hex_holds n) (holds_below n) e in
    last_holds n d (d == n) refl p.0 l (λ k. below_holds n d p.1 k)

-- a digit below 16 is written as one that means it
pub record IsDigit (d : ℕ) : Type 0 where
  pub is : is_hex (hex_digit d) ≡ true
  pub means : hex_value (hex_digit d) ≡ d

pub digit_is : (d : ℕ) → d < 16 → IsDigit d
digit_is d l =
    let p = and_parts (is_hex (hex_digit d)) (hex_value (hex_digit d) == d) (below_holds 16 d refl l) in
    record { is = p.0; means = eqb-true (hex_value (hex_digit d)) d p.1 }

-- two digits
hex_scanned : (high low : ℕ) (tail : List ℕ) → IsDigit high → IsDigit low → tokens_from InText (92 ∷ 120 ∷ hex_digit high ∷ hex_digit low ∷ tail) ≡ put (16 * high + low) (tokens_from InText tail)
hex_scanned high low tail h l = ap (hex_by (hex_digit high) (hex_digit low ∷ tail)) h.is ∙ ap (low_by (hex_value (hex_digit high)) (hex_digit low) tail) l.is ∙ values (hex_value (hex_digit high)) (hex_value (hex_digit low)) high low h.means l.means
  where
    values : (a b c d : ℕ) → a ≡ c → b ≡ d → put (16 * a + b) (tokens_from InText tail) ≡ put (16 * c + d) (tokens_from InText tail)
    values a b c d e f = rw e (rw f refl)

hex_byte : (byte : ℕ) (tail : List ℕ) → byte < 256 → tokens_from InText (92 ∷ 120 ∷ hex_digit (byte / 16) ∷ hex_digit (byte % 16) ∷ tail) ≡ put byte (tokens_from InText tail)
hex_byte byte tail l = hex_scanned (byte / 16) (byte % 16) tail (digit_is (byte / 16) (omega arith)) (digit_is (byte % 16) (omega arith)) ∙ ap (λ b. put b (tokens_from InText tail)) (omega arith)

-- a byte as it is
plain_mark : (byte : ℕ) (tail : List ℕ) (a b c d : Bool) → is_blank byte ≡ a → byte == 35 ≡ b → byte == 34 ≡ c → byte == 92 ≡ d → c ≡ false → d ≡ false → text_by byte tail (if a then Blank else (if b then Hash else (if c then Quote else (if d then Backslash else Other)))) ≡ put byte (tokens_from InText tail)
plain_mark byte tail true b c d e f g h i j = refl
plain_mark byte tail false true c d e f g h i j = refl
plain_mark byte tail false false true d e f g h i j = cc
plain_mark byte tail false false false true e f g h i j = cc
plain_mark byte tail false false false false e f g h i j = refl

-- a byte of a text, by what it is
byte_cases : (byte : ℕ) (tail : List ℕ) (a b c d e f : Bool) → byte == 34 ≡ a → byte == 92 ≡ b → byte == 10 ≡ c → byte == 13 ≡ d → byte == 9 ≡ e → byte < 256 → tokens_from InText ((if a then codes "\\\"" else (if b then codes "\\\\" else (if c then codes "\\n" else (if d then codes "\\r" else (if e then codes "\\t" else (if f then byte ∷ [] else codes "\\x" ++ hex_digit (byte / 16) ∷ hex_digit (byte % 16) ∷ [])))))) ++ tail) ≡ put byte (tokens_from InText tail)
byte_cases byte tail true b c d e f a0 b0 c0 d0 e0 l = ap (λ x. put x (tokens_from InText tail)) (sym (eqb-true byte 34 a0))
byte_cases byte tail false true c d e f a0 b0 c0 d0 e0 l = ap (λ x. put x (tokens_from InText tail)) (sym (eqb-true byte 92 b0))
byte_cases byte tail false false true d e f a0 b0 c0 d0 e0 l = ap (λ x. put x (tokens_from InText tail)) (sym (eqb-true byte 10 c0))
byte_cases byte tail false false false true e f a0 b0 c0 d0 e0 l = ap (λ x. put x (tokens_from InText tail)) (sym (eqb-true byte 13 d0))
byte_cases byte tail false false false false true f a0 b0 c0 d0 e0 l = ap (λ x. put x (tokens_from InText tail)) (sym (eqb-true byte 9 e0))
byte_cases byte tail false false false false false true a0 b0 c0 d0 e0 l = plain_mark byte tail (is_blank byte) (byte == 35) (byte == 34) (byte == 92) refl refl refl refl a0 b0
byte_cases byte tail false false false false false false a0 b0 c0 d0 e0 l = hex_byte byte tail l

byte_scanned : (byte : ℕ) (tail : List ℕ) → byte < 256 → tokens_from InText (byte_text byte ++ tail) ≡ put byte (tokens_from InText tail)
byte_scanned byte tail l = byte_cases byte tail (byte == 34) (byte == 92) (byte == 10) (byte == 13) (byte == 9) (nat_le 32 byte && nat_le byte 126) refl refl refl refl refl l

text_scanned : (bytes tail : List ℕ) → AreBytes bytes → tokens_from InText (flat_map byte_text bytes ++ tail) ≡ put_all bytes (tokens_from InText tail)
text_scanned [] tail b = refl
text_scanned (byte ∷ bytes) tail b = ap (tokens_from InText) (append_assoc (byte_text byte) (flat_map byte_text bytes) tail) ∙ byte_scanned byte (flat_map byte_text bytes ++ tail) b.0 ∙ ap (put byte) (text_scanned bytes tail b.1)

-- what stands behind a token: nothing, or a blank and more tokens
pub data Ending : List ℕ → List Token → Type 0 where
  over : Ending [] []
  goes : (bytes : List ℕ) (more : List Token) → tokens_from Between bytes ≡ Some more → Ending (32 ∷ bytes) more

word_ending : (tail : List ℕ) (more : List Token) → Ending tail more → tokens_from InPlain tail ≡ Some (Plain [] ∷ more)
word_ending _ _ over = refl
word_ending _ _ (goes bytes more e) = ap (before (Plain [])) e

text_ending : (tail : List ℕ) (more : List Token) → Ending tail more → tokens_from BehindText tail ≡ Some (Text [] ∷ more)
text_ending _ _ over = refl
text_ending _ _ (goes bytes more e) = ap (before (Text [])) e

first_marked : (byte : ℕ) (bytes : List ℕ) (a : Bool) (m : Mark) → is_blank byte ≡ a → a ≡ false → mark_of byte ≡ m → (m ≡ Blank → is_blank byte ≡ true) → (mark_of byte ≢ Hash) → (mark_of byte ≢ Quote) → between_by byte bytes m ≡ put byte (tokens_from InPlain bytes)
first_marked byte bytes a Blank e f g b h q = let x : is_blank byte ≡ true = b refl in cc
first_marked byte bytes a Hash e f g b h q = absurd (h g)
first_marked byte bytes a Quote e f g b h q = absurd (q g)
first_marked byte bytes a Backslash e f g b h q = refl
first_marked byte bytes a Other e f g b h q = refl

blank_marked : (byte : ℕ) (a b c d : Bool) → is_blank byte ≡ a → (if a then Blank else (if b then Hash else (if c then Quote else (if d then Backslash else Other)))) ≡ Blank → is_blank byte ≡ true
blank_marked byte true b c d e f = e
blank_marked byte false true c d e f = cc
blank_marked byte false false true d e f = cc
blank_marked byte false false false true e f = cc
blank_marked byte false false false false e f = cc

-- a token and what stands behind it
pub token_scanned : (token : Token) (tail : List ℕ) (more : List Token) → IsToken token → Ending tail more → tokens_from Between (token_text token ++ tail) ≡ Some (token ∷ more)
token_scanned (Plain []) tail more t e = absurd t
token_scanned (Plain (byte ∷ bytes)) tail more t e = first_marked byte (bytes ++ tail) (is_blank byte) (mark_of byte) refl t.2.solid refl (λ x. blank_marked byte (is_blank byte) (byte == 35) (byte == 34) (byte == 92) refl x) t.0 t.1
    ∙ ap (put byte) (word_scanned bytes tail t.3 ∙ ap (put_all bytes) (word_ending tail more e) ∙ put_words bytes more)
token_scanned (Text bytes) tail more t e = ap (tokens_from InText) (append_assoc (flat_map byte_text bytes) (34 ∷ []) tail) ∙ text_scanned bytes (34 ∷ tail) t ∙ ap (put_all bytes) (text_ending tail more e) ∙ put_texts bytes more

-- a line of tokens
abbrev pub body : List Token → List ℕ
body list = join_with_byte 32 (map token_text list)

pub body_scanned : (list : List Token) → AreTokens list → tokens (body list) ≡ Some list
body_scanned [] t = refl
body_scanned (token ∷ []) t = ap (tokens_from Between) (sym (append-nil (token_text token))) ∙ token_scanned token [] [] t.0 over
body_scanned (token ∷ next ∷ rest) t = token_scanned token (32 ∷ body (next ∷ rest)) (next ∷ rest) t.0 (goes (body (next ∷ rest)) (next ∷ rest) (body_scanned (next ∷ rest) t.1))
