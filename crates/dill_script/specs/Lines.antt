-- The lines of a script's text, and the bytes that may stand in them.
use Rattle.std.specs.Prelude.{ℕ, List, [], ◌∷◌, map, Bool, false, not, ◌&&◌, ◌||◌, ◌==◌, nat_le, if◌then◌else◌}

-- a space or a TAB
abbrev pub is_blank : ℕ → Bool
is_blank byte = (byte == 32) || (byte == 9)

-- TAB, and bytes 20 to 7e
abbrev pub is_line_byte : ℕ → Bool
is_line_byte byte = (byte == 9) || (nat_le 32 byte && nat_le byte 126)

-- a byte at the front of the first list
abbrev pub longer : ℕ → List (List ℕ) → List (List ℕ)
longer byte [] = (byte ∷ []) ∷ []
longer byte (line ∷ lines) = (byte ∷ line) ∷ lines

-- what stands before each LF, and what stands behind the last one where that is anything
abbrev pub pieces : List ℕ → List (List ℕ)
pieces [] = []
pieces (byte ∷ bytes) = if byte == 10 then [] ∷ pieces bytes else longer byte (pieces bytes)

-- without the CR that ends it, if one does
abbrev pub without_cr : List ℕ → List ℕ
without_cr [] = []
without_cr (byte ∷ []) = if byte == 13 then [] else byte ∷ []
without_cr (byte ∷ next ∷ rest) = byte ∷ without_cr (next ∷ rest)

-- the lines of a text: a CR before LF or at the end is dropped, and the last line needs no LF
abbrev pub lines_of : List ℕ → List (List ℕ)
lines_of bytes = map without_cr (pieces bytes)

-- the line has a token: its first byte behind blanks is there and starts no comment
abbrev pub has_tokens : List ℕ → Bool
has_tokens [] = false
has_tokens (byte ∷ bytes) = if is_blank byte then has_tokens bytes else not (byte == 35)
