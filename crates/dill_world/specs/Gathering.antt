-- The closings of an owner's bundles, moved behind the others, the highest number first.
use Rattle.std.specs.Prelude.{ℕ, ◌+◌, ◌++◌, List, [], ◌∷◌, filter, if◌then◌else◌, nat_lt}
use Rattle.dill_scope.specs.Scopes.{Scopes}
use Rattle.dill_rules.specs.declared.coroutine.Closing.{Closing}
use Rattle.dill_rules.specs.Settling.{highest_first}
use Rattle.dill_world.specs.Freeings.{is_owned_closing, others_of}

-- how many closings have a higher number, up to the first that has not
abbrev pub spot : ℕ → List Closing → ℕ
spot number [] = 0
spot number (x ∷ xs) = if nat_lt number x.number then 1 + spot number xs else 0

-- those of an owner, in the order in which they go
abbrev pub going : Scopes → ℕ → List Closing → List Closing
going s who all = highest_first (filter (is_owned_closing s who) all)

-- the closings with those of an owner behind the others
abbrev pub gathered : Scopes → ℕ → List Closing → List Closing
gathered s who all = others_of s who all ++ going s who all
