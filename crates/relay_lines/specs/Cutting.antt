-- How the tokens of a line are cut off its front, one after the other.
use Rattle.std.specs.Prelude.{◌≡◌, ℕ, ◌<◌, ◌≤◌, List, [], ◌∷◌, length, drop, Bool, true, false, not, ◌&&◌, ◌==◌, Option, Some, None}
use Rattle.dill_script.specs.Lines.{is_blank, has_tokens}
use Rattle.dill_script.specs.Tokens.{Token, Text, put, before, tokens_from, Place, Between, InText, BehindText}
use Rattle.relay_lines.specs.declared.text.Piece.{Piece}
use Rattle.relay_lines.specs.declared.text.Piece.TheVariants.{Byte, End, Fault}

-- a token stands at the front
abbrev pub begins_token : List ℕ → Bool
begins_token [] = false
begins_token (byte ∷ bytes) = not (is_blank byte) && not (byte == 35)

-- a token that stood before them has ended
abbrev pub ends_token : List ℕ → Bool
ends_token [] = true
ends_token (byte ∷ bytes) = is_blank byte

-- bytes at the front of the first token
abbrev pub put_all : List ℕ → Option (List Token) → Option (List Token)
put_all [] tokens = tokens
put_all (byte ∷ bytes) tokens = put byte (put_all bytes tokens)

-- the tokens of a text's rest, of which this piece stands first
abbrev pub behind_piece : Piece → List ℕ → Option (List Token)
behind_piece (Byte meant used) bytes = put meant (tokens_from InText (drop used bytes))
behind_piece End bytes = tokens_from BehindText (drop 1 bytes)
behind_piece Fault bytes = None

-- how many bytes the piece takes, which is one or more where it is no fault
abbrev pub Fits : Piece → ℕ → Type 0
Fits (Byte meant used) length = (0 < used) × (used ≤ length)
Fits End length = 0 < length
Fits Fault length = Unit {0}

-- the first token of a line begins there, behind blanks
pub record Starts (line rest : List ℕ) : Type 0 where
  pub begins : begins_token rest ≡ true
  pub there : has_tokens line ≡ true
  pub tokens : tokens_from Between rest ≡ tokens_from Between line
  pub within : length rest ≤ length line

-- a line without tokens
pub record IsBare (line : List ℕ) : Type 0 where
  pub there : has_tokens line ≡ false
  pub tokens : tokens_from Between line ≡ Some []

-- the bytes behind this place mean a byte of a text, and it takes so many of them
pub record Means (place : Place) (bytes : List ℕ) (meant used : ℕ) : Type 0 where
  pub tokens : tokens_from place bytes ≡ put meant (tokens_from InText (drop used bytes))
  pub within : used ≤ length bytes

-- a text and what stands behind it
pub record CutsText (bytes meant rest : List ℕ) : Type 0 where
  pub tokens : tokens_from InText bytes ≡ before (Text meant) (tokens_from Between rest)
  pub within : length rest ≤ length bytes

-- a token and what stands behind it
pub record CutsToken (bytes : List ℕ) (token : Token) (rest : List ℕ) : Type 0 where
  pub tokens : tokens_from Between bytes ≡ before token (tokens_from Between rest)
  pub shorter : length rest < length bytes
