-- What the types of this crate stand for in the definitions of scripts.
use Rattle.dill_script.specs.Tokens.{Token, Plain, Text}
use Rattle.relay_lines.specs.declared.token.Spelled.{Spelled}
use Rattle.relay_lines.specs.declared.token.Spelled.TheVariants as spelled

-- the token that is spelled so
abbrev pub token_in : Spelled → Token
token_in (spelled.Plain word) = Plain word
token_in (spelled.Text bytes) = Text bytes
