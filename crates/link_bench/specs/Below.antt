-- Links below a number.
use Rattle.std.specs.Prelude.{ℕ, List, Bool, nat_lt}
use Rattle.std.specs.List.{list_all}
use Rattle.dill_pollset.specs.declared.interest.Interest.{Interest}

abbrev pub is_below : ℕ → Interest → Bool
is_below n x = nat_lt x.link n

-- each link has a lower number
abbrev pub all_below : ℕ → List Interest → Bool
all_below n xs = list_all (is_below n) xs
