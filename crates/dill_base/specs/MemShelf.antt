-- The shelf in memory, whose calls fail by their numbers.
use Rattle.std.specs.Prelude.{ℕ, zero, suc, List, [], ◌∷◌, ◌++◌, length, take, drop, min, Option, Some, None, Bool, true, false, if◌then◌else◌}
use Rattle.dill_base.specs.Causes.{one_more, is_listed}
use Rattle.dill_base.specs.Shelves.{Files, bytes_under}
use Rattle.dill_base.specs.declared.shelf.Piece.{Piece}
use Rattle.dill_base.specs.declared.shelf.Piece.TheVariants.{Got, End, Failed}

-- its files, what is left of the one that was started, and its calls so far: those that are to fail by their numbers, how many there were, and how many failed
pub record HeldFiles : Type 0 where
  pub files : Files
  pub left : List ℕ
  pub fails : List ℕ
  pub calls : ℕ
  pub faults : ℕ

-- what is left of the file at a place, from a byte on
abbrev pub left_of : Files → ℕ → ℕ → List ℕ
left_of [] place at = []
left_of (file ∷ files) zero at = drop at file.1
left_of (file ∷ files) (suc place) at = left_of files place at

-- after one more call
abbrev pub called : HeldFiles → HeldFiles
called shelf = record shelf { calls = one_more shelf.calls }

-- after one more call, which failed
abbrev pub failed : HeldFiles → HeldFiles
failed shelf = record (called shelf) { faults = one_more shelf.faults }

-- this call is to fail
abbrev pub is_due : HeldFiles → Bool
is_due shelf = is_listed shelf.fails (one_more shelf.calls)

-- A start looks for the name first; then it fails by its number; else it stands at the beginning.
abbrev pub start_at : HeldFiles → Option (List ℕ) → Bool → HeldFiles
start_at shelf None due = called shelf
start_at shelf (Some bytes) true = failed shelf
start_at shelf (Some bytes) false = record (called shelf) { left = bytes }

abbrev pub starts_well : Option (List ℕ) → Bool → Bool
starts_well None due = false
starts_well (Some bytes) true = false
starts_well (Some bytes) false = true

abbrev pub after_start : HeldFiles → List ℕ → HeldFiles
after_start shelf name = start_at shelf (bytes_under shelf.files name) (is_due shelf)

abbrev pub is_started : HeldFiles → List ℕ → Bool
is_started shelf name = starts_well (bytes_under shelf.files name) (is_due shelf)

-- so many bytes, or the end where there are none
abbrev pub piece_of : ℕ → Piece
piece_of zero = End
piece_of (suc n) = Got (suc n)

-- what a read with so much room gives: as many bytes as are left and fit
abbrev pub read_piece : HeldFiles → ℕ → Piece
read_piece shelf room = if is_due shelf then Failed else piece_of (min (length shelf.left) room)

abbrev pub after_read : HeldFiles → ℕ → HeldFiles
after_read shelf room = if is_due shelf then failed shelf else record (called shelf) { left = drop room shelf.left }

-- the buffer: the bytes that were read, and then what stood there
abbrev pub buffer_after : HeldFiles → List ℕ → List ℕ
buffer_after shelf buf = if is_due shelf then buf else take (length buf) shelf.left ++ drop (length (take (length buf) shelf.left)) buf
