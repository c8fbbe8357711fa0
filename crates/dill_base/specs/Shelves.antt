-- What shelves do: files under names, read from the beginning in pieces.
use Rattle.std.specs.Prelude.{◌≡◌, ◌⊎◌, ℕ, ◌<◌, ◌≤◌, List, [], ◌∷◌, length, take, Option, Some, None, Result, OnOk, OnErr, IsSome, if◌then◌else◌}
use Rattle.std.specs.Str.{bytes_eq}
use Rattle.std.specs.Io.KnownBytes.{Consumes, IsAtEnd}
use Rattle.dill_base.specs.Causes.{Rose}
use Rattle.dill_base.specs.declared.shelf.Piece.{Piece}
use Rattle.dill_base.specs.declared.shelf.Piece.TheVariants.{Got, End, Failed}

-- names and the bytes under them
abbrev pub Files : Type 0
Files = List (List ℕ × List ℕ)

-- the bytes under a name; where a name stands twice, its first place counts
abbrev pub bytes_under : Files → List ℕ → Option (List ℕ)
bytes_under [] name = None
bytes_under (file ∷ files) name = if bytes_eq file.0 name then Some file.1 else bytes_under files name

-- a shelf that tells its files stands at the beginning of the one of this name
abbrev pub Starts : Option Files → List ℕ → Option (List ℕ) → Type 0
Starts None name left = Unit {0}
Starts (Some files) name left = IsSome left × (bytes_under files name ≡ left)

-- a shelf that tells its files has none of this name
abbrev pub Lacks : Option Files → List ℕ → Type 0
Lacks None name = ⊥
Lacks (Some files) name = bytes_under files name ≡ None

-- A start fails only where the count rose or the name isn't there, and a name that isn't there leaves the count.
pub record StartHasCause (files : Option Files) (name : List ℕ) (before now : ℕ) {E : Type 0} (result : Result (Unit {0}) E) : Type 0 where
  pub later : before ≤ now
  pub failed : OnErr result (Rose before now ⊎ Lacks files name)
  pub kept : OnOk result (now ≡ before)
  pub missing : Lacks files name → now ≡ before

-- a piece is one byte or more of what is left, and the end comes exactly where none is
abbrev pub Reads : Option (List ℕ) → Option (List ℕ) → List ℕ → Piece → Type 0
Reads old new buf (Got n) = (0 < n) × (n ≤ length buf) × Consumes old new (take n buf)
Reads old new buf End = IsAtEnd old × (new ≡ old)
Reads old new buf Failed = Unit {0}

-- the count stays where there was a piece or the end, and rose where the read failed
abbrev pub ReadHasCause : ℕ → ℕ → Piece → Type 0
ReadHasCause before now (Got n) = now ≡ before
ReadHasCause before now End = now ≡ before
ReadHasCause before now Failed = (before ≤ now) × Rose before now
