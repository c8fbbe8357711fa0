-- The texts among the tokens.
use Rattle.std.specs.Prelude.{ℕ, List, Option, Some, None}
use Rattle.dill_script.specs.Tokens.{Token, Plain, Text}

-- the bytes that the token means, where it is a text
abbrev pub text_in : Token → Option (List ℕ)
text_in (Plain word) = None
text_in (Text bytes) = Some bytes
