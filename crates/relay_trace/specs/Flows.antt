-- Lines that go out in pieces.
use Rattle.std.specs.Prelude.{◌≡◌, ℕ, ◌+◌, ◌*◌, ◌<◌, List, ◌++◌, length, Option}
use Rattle.std.specs.Io.KnownBytes.{Appends}

-- a front of the bytes that lacks some of them
pub record IsProperPart (part bytes : List ℕ) : Type 0 where
  pub rest : List ℕ
  pub whole : bytes ≡ part ++ rest
  pub proper : 0 < length rest

-- a sink that tells holds a front of the bytes more, which lacks some of them
pub record AppendsProper (old new : Option (List ℕ)) (bytes : List ℕ) : Type 0 where
  pub part : List ℕ
  pub is : IsProperPart part bytes
  pub out : Appends old new part

-- all of the bytes went out but those that are left
abbrev pub Flows : Option (List ℕ) → Option (List ℕ) → List ℕ → List ℕ → Type 0
Flows old new bytes left = (gone : List ℕ) × Appends old new gone × (bytes ≡ gone ++ left)

-- of so many bytes all went out but those that are left, in pieces of 4,096
abbrev pub InPieces : ℕ → ℕ → Type 0
InPieces all left = (pieces : ℕ) × (all ≡ pieces * 4096 + left)
