-- The classes of bytes in HTTP lines: RFC 9110, sections 5.5 and 5.6, and RFC 9112, sections 3 and 4.
use Rattle.std.specs.Prelude.{ℕ, Bool, false, ◌||◌, ◌&&◌, not, List, [], ◌∷◌, ◌==◌, nat_le, nat_lt, codes, length}
use Rattle.std.specs.List.{list_all, list_any}
use Rattle.std.specs.Char.{is_ascii_alphanumeric}

-- neither CR nor LF
abbrev pub is_inner : ℕ → Bool
is_inner b = not (b == 13 || b == 10)

-- space or TAB
abbrev pub is_blank : ℕ → Bool
is_blank b = b == 32 || b == 9

-- a letter, a digit or one of the fifteen marks
unfoldable pub is_token_byte : ℕ → Bool
is_token_byte b = is_ascii_alphanumeric b || list_any (λ mark. mark == b) (codes "!#$%&'*+-.^_`|~")

-- a byte that is seen, in ASCII
abbrev pub is_resource_byte : ℕ → Bool
is_resource_byte b = nat_le 33 b && nat_le b 126

-- TAB, space, or a byte that is seen, in ASCII or past it
abbrev pub is_text_byte : ℕ → Bool
is_text_byte b = b == 9 || (nat_le 32 b && not (b == 127))

-- one or more bytes of the class
abbrev pub is_some_of : (ℕ → Bool) → List ℕ → Bool
is_some_of test bytes = nat_lt 0 (length bytes) && list_all test bytes

-- one or more bytes of a token
abbrev pub is_token : List ℕ → Bool
is_token bytes = is_some_of is_token_byte bytes

-- one or more bytes of a resource
abbrev pub is_resource : List ℕ → Bool
is_resource bytes = is_some_of is_resource_byte bytes

-- bytes of a text, maybe none
abbrev pub is_text : List ℕ → Bool
is_text bytes = list_all is_text_byte bytes

-- the first byte is of the class
abbrev pub begins_with : (ℕ → Bool) → List ℕ → Bool
begins_with test [] = false
begins_with test (b ∷ bytes) = test b

-- the last byte is of the class
abbrev pub ends_with : (ℕ → Bool) → List ℕ → Bool
ends_with test [] = false
ends_with test (b ∷ []) = test b
ends_with test (b ∷ c ∷ bytes) = ends_with test (c ∷ bytes)

-- no blank stands at either end
abbrev pub is_bare : List ℕ → Bool
is_bare bytes = not (begins_with is_blank bytes) && not (ends_with is_blank bytes)
