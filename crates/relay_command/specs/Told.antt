-- What the types of this crate stand for in the definition of arguments.
use Rattle.std.specs.Prelude.{ℕ, List, codes, if◌then◌else◌, Option, Some, None}
use Rattle.dill_base.specs.Maps.{if_some, first_some}
use Rattle.relay_command.specs.declared.command.Command as stated
use Rattle.relay_command.specs.declared.piece.Flag.{Flag}
use Rattle.relay_command.specs.declared.piece.Flag.TheVariants as flags
use Rattle.relay_command.specs.declared.piece.Piece as coded
use Rattle.relay_command.specs.declared.piece.Piece.TheVariants as spelled
use Rattle.relay_command.specs.Arguments.{Command, Piece, Value, Free, options, joined, begins_with_dash}

-- the command that is stated so
abbrev pub told : stated.Command → Command
told command = record { mode = command.mode; net = command.net; turns = command.turns; cut = command.cut; script = command.script.now }

-- how an option is written
abbrev pub flag_text : Flag → List ℕ
flag_text flags.Mode = codes "--mode"
flag_text flags.Net = codes "--net"
flag_text flags.Turns = codes "--turns"
flag_text flags.Cut = codes "--cut"

-- the piece that is spelled so
abbrev pub piece_in : coded.Piece → Piece
piece_in (spelled.Value flag value) = Value (flag_text flag) value.now
piece_in (spelled.Free arg) = Free arg.now

-- what an argument says that is no option by itself
abbrev pub alone : List ℕ → Option Piece
alone arg = if_some (first_some (joined arg) options) (if begins_with_dash arg then None else Some (Free arg)) Some
