-- The payload of a close frame (RFC 6455, sections 5.5.1 and 7.4).
use Rattle.std.specs.Prelude.{◌≡◌, ◌+◌, ◌*◌, ◌&&◌, ◌||◌, if◌then◌else◌, ℕ, Bool, true, List, [], ◌∷◌, leb, Option, Some, None, IsUtf8}
use Rattle.std.specs.Str.{is_utf8}

-- The codes that a close frame may carry.
abbrev pub is_close_code : ℕ → Bool
is_close_code code = leb 1000 code && leb code 1003 || leb 1007 code && leb code 1014 || leb 3000 code && leb code 4999

-- Nothing at all, or a big-endian code and a text.
abbrev pub ClosePayload : ℕ → List ℕ → Type 0
ClosePayload code [] = code ≡ 0
ClosePayload code (half ∷ []) = ⊥
ClosePayload code (high ∷ low ∷ reason) = (code ≡ high * 256 + low) × (is_close_code code ≡ true) × IsUtf8 reason

-- The code that a payload carries.
abbrev pub close_of : List ℕ → Option ℕ
close_of [] = Some 0
close_of (half ∷ []) = None
close_of (high ∷ low ∷ reason) = if is_close_code (high * 256 + low) && is_utf8 reason then Some (high * 256 + low) else None
