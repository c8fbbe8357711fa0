-- The tokens of a line: texts in quotes with their escapes, and plain tokens, which run to the next blank.
use Rattle.std.specs.Prelude.{ℕ, ◌+◌, ◌-◌, ◌*◌, List, [], ◌∷◌, Bool, true, false, ◌&&◌, ◌||◌, ◌==◌, nat_le, if◌then◌else◌, Option, Some, None, option_map, bytes_eq}
use Rattle.dill_script.specs.Lines.{is_blank}

-- a token: plain as it stands, or a text as the bytes that it means
pub data Token : Type 0 where
  Plain : List ℕ → Token
  Text : List ℕ → Token

-- what a byte is among tokens
pub data Mark : Type 0 where
  Blank : Mark
  Hash : Mark
  Quote : Mark
  Backslash : Mark
  Other : Mark

-- a byte by what it may begin or end
abbrev pub mark_of : ℕ → Mark
mark_of byte = if is_blank byte then Blank else (if byte == 35 then Hash else (if byte == 34 then Quote else (if byte == 92 then Backslash else Other)))

-- 0 to 9, a to f and A to F
abbrev pub is_hex : ℕ → Bool
is_hex byte = (nat_le 48 byte && nat_le byte 57) || ((nat_le 97 byte && nat_le byte 102) || (nat_le 65 byte && nat_le byte 70))

-- what such a digit means
abbrev pub hex_value : ℕ → ℕ
hex_value byte = if nat_le byte 57 then byte - 48 else (if nat_le byte 70 then byte - 55 else byte - 87)

-- what the letter behind a `\` means, but for `x`
abbrev pub escaped : ℕ → Option ℕ
escaped byte = if (byte == 34) || (byte == 92) then Some byte else (if byte == 110 then Some 10 else (if byte == 114 then Some 13 else (if byte == 116 then Some 9 else None)))

-- a byte at the front of the first token
abbrev pub put : ℕ → Option (List Token) → Option (List Token)
put byte None = None
put byte (Some []) = None
put byte (Some (Plain word ∷ rest)) = Some (Plain (byte ∷ word) ∷ rest)
put byte (Some (Text bytes ∷ rest)) = Some (Text (byte ∷ bytes) ∷ rest)

-- a token before the others
abbrev pub before : Token → Option (List Token) → Option (List Token)
before token rest = option_map (λ tokens. token ∷ tokens) rest

-- where in a line a byte stands: between tokens, in a plain one, in a text, behind its `\`, behind its `\x`, behind the first digit there, or behind the `"` that ends it
pub data Place : Type 0 where
  Between : Place
  InPlain : Place
  InText : Place
  InEscape : Place
  InHex : Place
  InHexOf : ℕ → Place
  BehindText : Place

-- the tokens from a place on, of which the first may have begun before it; none where a text has no end, another escape, or something else than a blank behind it
abbrev pub tokens_from : Place → List ℕ → Option (List Token)
tokens_from Between [] = Some []
tokens_from InPlain [] = Some (Plain [] ∷ [])
tokens_from BehindText [] = Some (Text [] ∷ [])
tokens_from _ [] = None
tokens_from Between (byte ∷ bytes) = elim (mark_of byte) [
  | Blank ↦ tokens_from Between bytes
  | Hash ↦ Some []
  | Quote ↦ tokens_from InText bytes
  | _ ↦ put byte (tokens_from InPlain bytes)
]
tokens_from InPlain (byte ∷ bytes) = elim (is_blank byte) [
  | true ↦ before (Plain []) (tokens_from Between bytes)
  | false ↦ put byte (tokens_from InPlain bytes)
]
tokens_from InText (byte ∷ bytes) = elim (mark_of byte) [
  | Quote ↦ tokens_from BehindText bytes
  | Backslash ↦ tokens_from InEscape bytes
  | _ ↦ put byte (tokens_from InText bytes)
]
tokens_from InEscape (byte ∷ bytes) = elim (byte == 120) [
  | true ↦ tokens_from InHex bytes
  | false ↦ elim (escaped byte) [
    | Some meant ↦ put meant (tokens_from InText bytes)
    | None ↦ None
  ]
]
tokens_from InHex (byte ∷ bytes) = elim (is_hex byte) [
  | true ↦ tokens_from (InHexOf (hex_value byte)) bytes
  | false ↦ None
]
tokens_from (InHexOf high) (byte ∷ bytes) = elim (is_hex byte) [
  | true ↦ put (16 * high + hex_value byte) (tokens_from InText bytes)
  | false ↦ None
]
tokens_from BehindText (byte ∷ bytes) = elim (is_blank byte) [
  | true ↦ before (Text []) (tokens_from Between bytes)
  | false ↦ None
]

-- the tokens of a line
abbrev pub tokens : List ℕ → Option (List Token)
tokens line = tokens_from Between line

-- the token is plain and these bytes
abbrev pub is_plain : List ℕ → Token → Bool
is_plain word (Plain bytes) = bytes_eq bytes word
is_plain word (Text bytes) = false
