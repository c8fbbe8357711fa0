-- Layers whose forms, terminators and terminal messages an attach takes.
use Rattle.std.specs.Prelude.{◌≡◌, ◌<◌, ◌≤◌, length, List, [], ◌∷◌, false}
use Rattle.dill_stack.specs.Layers.{Placed, Prefix, Suffix, Term}
use Rattle.dill_stack.specs.Composed.{is_refused}

-- a form of 1 to 8 bytes, a terminator of 1 to 32, a terminal message of at most 1,024 that no layer below refuses
abbrev pub IsFormed : List Placed → Type 0
IsFormed [] = Unit {0}
IsFormed (Prefix form ∷ below) = (1 ≤ form.size) × (form.size ≤ 8) × IsFormed below
IsFormed (Suffix end ∷ below) = (0 < length end) × (length end ≤ 32) × IsFormed below
IsFormed (Term term ∷ below) = (length term.terminal ≤ 1024) × (is_refused below term.terminal ≡ false) × IsFormed below
IsFormed (layer ∷ below) = IsFormed below
