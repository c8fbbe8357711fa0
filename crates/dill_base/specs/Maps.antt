-- Finite maps, which are lists of records in rising number: what std's `find`, `filter` and `++` leave out.
use Rattle.std.specs.Prelude.{cond, Bool, List, [], ◌∷◌, Option, Some, None}
use Rattle.std.specs.Option.{option_or}

-- what f gives of a value, or else d
abbrev pub if_some : {A B : Type 0} → Option A → B → (A → B) → B
if_some None d f = d
if_some (Some a) d f = f a

-- the first record that passes the test is changed
abbrev pub change : {X : Type 0} → (X → Bool) → (X → X) → List X → List X
change test f [] = []
change test f (x ∷ xs) = cond (test x) (f x ∷ xs) (x ∷ change test f xs)

-- without the first record that passes the test
abbrev pub without : {X : Type 0} → (X → Bool) → List X → List X
without test [] = []
without test (x ∷ xs) = cond (test x) xs (x ∷ without test xs)

-- what f gives of the first record of which it gives something
abbrev pub first_some : {X Y : Type 0} → (X → Option Y) → List X → Option Y
first_some f [] = None
first_some f (x ∷ xs) = option_or (f x) (first_some f xs)
