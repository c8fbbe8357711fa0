-- What was read, before what is still to be read.
use Rattle.std.specs.Prelude.{◌≡◌, ◌<◌, List, ◌++◌, length, Option, Some, option_map}
use Rattle.dill_script.specs.declared.form.Operand.{Operand}
use Rattle.dill_script.specs.Numbers.{joined}
use Rattle.dill_script.specs.Tokens.{Token}

-- these before the rest, where there is a rest
abbrev pub all_before : {X : Type 0} → List X → Option (List X) → Option (List X)
all_before read others = option_map (λ rest. read ++ rest) others

-- by this reading an operand stands first, and these tokens behind it
pub record Takes (reading : List Token → Option (List Operand)) (tokens : List Token) (operand : Operand) (rest : List Token) : Type 0 where
  pub operands : reading tokens ≡ joined (Some operand) (reading rest)
  pub shorter : length rest < length tokens
