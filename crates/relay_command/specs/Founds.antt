-- What pieces have said, one after the other, and the command that they are with those that follow.
use Rattle.std.specs.Prelude.{ℕ, List, [], ◌∷◌, filter_map, codes, Option, Some, None, option_map}
use Rattle.dill_base.specs.Maps.{if_some}
use Rattle.relay_command.specs.declared.command.Mode.{Mode}
use Rattle.relay_command.specs.declared.command.Mode.TheVariants.{Run}
use Rattle.relay_command.specs.declared.command.Net.{Net}
use Rattle.relay_command.specs.declared.command.Net.TheVariants.{Real}
use Rattle.relay_command.specs.declared.found.Found.{Found}
use Rattle.relay_command.specs.declared.piece.Flag.{Flag}
use Rattle.relay_command.specs.declared.piece.Flag.TheVariants as flags
use Rattle.relay_command.specs.declared.piece.Piece as coded
use Rattle.relay_command.specs.declared.piece.Piece.TheVariants as spelled
use Rattle.relay_command.specs.Arguments.{Command, Piece, mode_of, net_of, number_within, most_turns, value_for, free_arg, only, said, settled_as}

-- a value that nothing was said before
abbrev pub once : {X : Type 0} → Option X → Option X → Option X
once None value = value
once (Some x) value = None

-- with an option's value
abbrev pub with_value : Found → Flag → List ℕ → Option Found
with_value found flags.Mode value = option_map (λ mode. record found { mode = Some mode }) (once found.mode (mode_of value))
with_value found flags.Net value = option_map (λ net. record found { net = Some net }) (once found.net (net_of value))
with_value found flags.Turns value = option_map (λ turns. record found { turns = Some turns }) (once found.turns (number_within 1 most_turns value))
with_value found flags.Cut value = option_map (λ cut. record found { cut = Some cut }) (once found.cut (number_within 1 4096 value))

-- with a piece
abbrev pub with_piece : Found → coded.Piece → Option Found
with_piece found (spelled.Value flag value) = with_value found flag value.now
with_piece found (spelled.Free arg) = option_map (λ script. record found { script = Some script }) (once found.script (Some arg))

-- what an option says, where it may have been said before these values
abbrev pub said_after : {X : Type 0} → Option X → (List ℕ → Option X) → X → List (List ℕ) → Option X
said_after None read default values = said read default values
said_after (Some x) read default [] = Some x
said_after (Some x) read default (value ∷ values) = None

-- the one of arguments, where there may have been one before them
abbrev pub only_after : Option (List ℕ) → List (List ℕ) → Option (List ℕ)
only_after None args = only args
only_after (Some arg) [] = Some arg
only_after (Some arg) (other ∷ args) = None

-- the command from its parts, if there are all of them
abbrev pub made : Option Mode → Option Net → Option ℕ → Option ℕ → Option (List ℕ) → Option Command
made modes nets most cuts scripts =
    if_some modes None (λ mode. if_some nets None (λ net. if_some most None (λ turns. if_some cuts None (λ cut. if_some scripts None (λ script. settled_as mode (record { mode = mode; net = net; turns = turns; cut = cut; script = script }))))))

-- the command that these pieces are behind what was found
abbrev pub command_after : Found → List Piece → Option Command
command_after found all =
    made (said_after found.mode mode_of Run (filter_map (value_for (codes "--mode")) all)) (said_after found.net net_of Real (filter_map (value_for (codes "--net")) all))
    (said_after found.turns (number_within 1 most_turns) 1000000000 (filter_map (value_for (codes "--turns")) all)) (said_after found.cut (number_within 1 4096) 4096 (filter_map (value_for (codes "--cut")) all))
    (only_after (option_map (λ arg. arg.now) found.script) (filter_map free_arg all))

-- the same, where there may be no pieces
abbrev pub command_left : Found → Option (List Piece) → Option Command
command_left found None = None
command_left found (Some all) = command_after found all
