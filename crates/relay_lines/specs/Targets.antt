-- The registers before a `=`.
use Rattle.std.specs.Prelude.{List, ◌++◌, Option, option_map}
use Rattle.std.specs.Borrow.{Bor}
use Rattle.dill_script.specs.declared.line.Register.{Register}
use Rattle.dill_script.specs.Tokens.{Token}

-- the registers, and the tokens behind the `=`
abbrev pub targets_in : List Register × Bor (List Token) → List Register × List Token
targets_in found = (found.0, found.1.now)

-- registers before those that are still to be read
abbrev pub targets_before : List Register → Option (List Register × List Token) → Option (List Register × List Token)
targets_before targets found = option_map (λ rest. (targets ++ rest.0, rest.1)) found
