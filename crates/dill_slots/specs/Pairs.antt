-- Words for lists: what holds of each two elements, which numbers are in a list, and lists with room for more.
use Rattle.std.specs.Prelude.{ℕ, List, [], ◌∷◌, Bool, true, ◌&&◌, ◌==◌, not}
use Rattle.std.specs.List.{list_any, list_all}

-- a test passes for each element and each later one
abbrev pub each_pair : {X : Type 0} → (X → X → Bool) → List X → Bool
each_pair test [] = true
each_pair test (x ∷ xs) = list_all (test x) xs && each_pair test xs

-- a number is in a list
abbrev pub has : List ℕ → ℕ → Bool
has numbers n = list_any (λ m. m == n) numbers

-- two numbers differ
abbrev pub differ : ℕ → ℕ → Bool
differ m n = not (m == n)

-- a list, and how many elements it has room for without taking memory
pub record Roomy (X : Type 0) : Type 0 where
  pub items : List X
  pub room : ℕ

-- such a list of its parts
abbrev pub roomy : {X : Type 0} → List X → ℕ → Roomy X
roomy items room = record { items = items; room = room }
