-- The layer that stands on top of a stack.
use Rattle.std.specs.Prelude.{Bool, false}
use Rattle.dill_stack.specs.declared.layer.Top.{Top}
use Rattle.dill_stack.specs.declared.layer.Top.TheVariants as tops
use Rattle.dill_rules.specs.Directions.{is_prefix, is_suffix, is_term, is_http, is_ws}

-- this layer stands on top; a stack without layers is none
abbrev pub is_top : Top → Top → Bool
is_top tops.Bytes = λ top. false
is_top tops.Prefix = is_prefix
is_top tops.Suffix = is_suffix
is_top tops.Term = is_term
is_top tops.Http = is_http
is_top tops.Ws = is_ws
