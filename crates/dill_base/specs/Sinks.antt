-- What went out of some bytes.
use Rattle.std.specs.Prelude.{◌≡◌, ℕ, ◌<◌, List, ◌++◌, length, Option}
use Rattle.std.specs.Io.KnownBytes.{Appends}

-- a front of the bytes that lacks some of them, where there are any
pub record IsPart (part bytes : List ℕ) : Type 0 where
  pub rest : List ℕ
  pub whole : bytes ≡ part ++ rest
  pub proper : 0 < length bytes → 0 < length rest

-- a sink that tells holds such a front more
abbrev pub AppendsPart : Option (List ℕ) → Option (List ℕ) → List ℕ → Type 0
AppendsPart old new bytes = (part : List ℕ) × IsPart part bytes × Appends old new part
