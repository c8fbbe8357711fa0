-- The first part of an address.
use Rattle.std.specs.Prelude.{ℕ, List, [], ◌∷◌, Option, None}
use Rattle.dill_script.specs.Numbers.{number_up_to, each}

-- four numbers up to 255, from the parts between `.`
abbrev pub ip_in : List (List ℕ) → Option (List ℕ)
ip_in (first ∷ second ∷ third ∷ fourth ∷ []) = each (number_up_to 255) (first ∷ second ∷ third ∷ fourth ∷ [])
ip_in _ = None
