-- The statements with two operands that make no call of the table.
use Rattle.std.specs.Prelude.{List, Bool, Option, option_and_then}
use Rattle.dill_script.specs.declared.statement.Statement.{Statement}
use Rattle.dill_script.specs.declared.statement.Statement.TheVariants as statements
use Rattle.dill_script.specs.Operands.{register_in, number_register, bytes_register, num_of, bytes_of}
use Rattle.dill_script.specs.Statements.{both, set_at, with_two}
use Rattle.dill_script.specs.Tokens.{Token}

-- `add`: a number register and NUM
abbrev pub add_of : List Token → Option Statement
add_of tokens = with_two (λ place value. both statements.Add (number_register place) (num_of value)) tokens

-- `sub`: the same
abbrev pub sub_of : List Token → Option Statement
sub_of tokens = with_two (λ place value. both statements.Sub (number_register place) (num_of value)) tokens

-- `len`: a number register and a byte register
abbrev pub len_of : List Token → Option Statement
len_of tokens = with_two (λ place source. both statements.Len (number_register place) (bytes_register source)) tokens

-- `set`: a register, and NUM or BYTES as it is
abbrev pub set_of : Bool → List Token → Option Statement
set_of tried tokens = with_two (λ target value. option_and_then (λ register. set_at tried register value) (register_in target)) tokens

-- `join`: a byte register and BYTES
abbrev pub join_of : Bool → List Token → Option Statement
join_of tried tokens = with_two (λ place value. both (statements.Join tried) (bytes_register place) (bytes_of value)) tokens
