-- The arguments of a command: the options, in any order, and the one argument that names the script.
use Rattle.std.specs.List.{list_all}
use Rattle.std.specs.Prelude.{◌≡◌, ◌+◌, ℕ, map, is_none, List, [], ◌∷◌, ◌++◌, length, take, drop, filter_map, find, Bool, true, false, ◌==◌, nat_le, if◌then◌else◌, Option, Some, None, option_map, option_and_then, bytes_eq, codes, is_some}
use Rattle.dill_base.specs.Maps.{if_some, first_some}
use Rattle.dill_script.specs.Numbers.{named, only_if, number_up_to}
use Rattle.relay_command.specs.declared.command.Mode.{Mode}
use Rattle.relay_command.specs.declared.command.Mode.TheVariants.{Run, Trace, Check, Load}
use Rattle.relay_command.specs.declared.command.Net.{Net}
use Rattle.relay_command.specs.declared.command.Net.TheVariants.{Real, Loop}

-- what is to be done: `turns` bounds turns and rounds, `cut` is how many bytes a read of the network in memory gives at most
pub record Command : Type 0 where
  pub mode : Mode
  pub net : Net
  pub turns : ℕ
  pub cut : ℕ
  pub script : List ℕ

abbrev pub mode_text : Mode → List ℕ
mode_text Run = codes "run"
mode_text Trace = codes "trace"
mode_text Check = codes "check"
mode_text Load = codes "load"

abbrev pub net_text : Net → List ℕ
net_text Real = codes "real"
net_text Loop = codes "loop"

abbrev pub mode_of : List ℕ → Option Mode
mode_of arg = named mode_text (Run ∷ Trace ∷ Check ∷ Load ∷ []) arg

abbrev pub net_of : List ℕ → Option Net
net_of arg = named net_text (Real ∷ Loop ∷ []) arg

-- a number of at most 18 digits, within bounds
abbrev pub number_within : ℕ → ℕ → List ℕ → Option ℕ
number_within least greatest arg = option_and_then (λ n. only_if (nat_le least n) n) (number_up_to greatest arg)

abbrev pub most_turns : ℕ
most_turns = 999999999999999999

-- what arguments say: an option's value, or an argument that is none
pub data Piece : Type 0 where
  Value : (option value : List ℕ) → Piece
  Free : (arg : List ℕ) → Piece

abbrev pub options : List (List ℕ)
options = codes "--mode" ∷ codes "--net" ∷ codes "--turns" ∷ codes "--cut" ∷ []

abbrev pub begins_with_dash : List ℕ → Bool
begins_with_dash [] = false
begins_with_dash (byte ∷ bytes) = byte == 45

-- the value of an option that is joined to it by `=`
abbrev pub joined : List ℕ → List ℕ → Option Piece
joined arg option = only_if (bytes_eq (take (length option + 1) arg) (option ++ codes "=")) (Value option (drop (length option + 1) arg))

abbrev pub behind : Piece → Option (List Piece) → Option (List Piece)
behind piece pieces = option_map (λ all. piece ∷ all) pieces

abbrev pub is_option : List ℕ → Bool
is_option arg = is_some (find (bytes_eq arg) options)

abbrev pub ends_options : List ℕ → Bool
ends_options arg = bytes_eq arg (codes "--")

-- an argument that is no option by itself, before the pieces of those that follow
abbrev pub piece_first : List ℕ → Option (List Piece) → Option (List Piece)
piece_first arg rest = if_some (first_some (joined arg) options) (if begins_with_dash arg then None else behind (Free arg) rest) (λ piece. behind piece rest)

-- The pieces that arguments make. There are none where an option lacks its value, or where an argument that begins with `-` is no option. Behind `--` every argument is free.
abbrev pub pieces : List (List ℕ) → Option (List Piece)
pieces [] = Some []
pieces (arg ∷ []) = if ends_options arg then Some [] else (if is_option arg then None else piece_first arg (Some []))
pieces (arg ∷ next ∷ args) = if ends_options arg then Some (Free next ∷ map Free args) else (if is_option arg then behind (Value arg next) (pieces args) else piece_first arg (pieces (next ∷ args)))

abbrev pub value_for : List ℕ → Piece → Option (List ℕ)
value_for option (Value other value) = only_if (bytes_eq option other) value
value_for option (Free arg) = None

abbrev pub free_arg : Piece → Option (List ℕ)
free_arg (Value option value) = None
free_arg (Free arg) = Some arg

-- the one of a list
abbrev pub only : {X : Type 0} → List X → Option X
only [] = None
only (x ∷ []) = Some x
only (x ∷ y ∷ more) = None

-- what an option says: its default where it isn't there, and nothing where it comes twice or its value is none that it may have
abbrev pub said : {X : Type 0} → (List ℕ → Option X) → X → List (List ℕ) → Option X
said read default [] = Some default
said read default (value ∷ []) = read value
said read default (value ∷ second ∷ more) = None

abbrev pub option_in : {X : Type 0} → List Piece → List ℕ → (List ℕ → Option X) → X → Option X
option_in all option read default = said read default (filter_map (value_for option) all)

-- a load names how many clients there are, and runs over the network in memory
abbrev pub settled_as : Mode → Command → Option Command
settled_as Load command = only_if (is_some (number_within 1 10000 command.script)) (record command { net = Loop })
settled_as mode command = Some command

abbrev pub command_in : List Piece → Option Command
command_in all =
    if_some (option_in all (codes "--mode") mode_of Run) None (λ mode. if_some (option_in all (codes "--net") net_of Real) None (λ net.
    if_some (option_in all (codes "--turns") (number_within 1 most_turns) 1000000000) None (λ turns. if_some (option_in all (codes "--cut") (number_within 1 4096) 4096) None (λ cut.
    if_some (only (filter_map free_arg all)) None (λ script. settled_as mode (record { mode = mode; net = net; turns = turns; cut = cut; script = script }))))))

-- the command that arguments are, if they are one
abbrev pub command_of : List (List ℕ) → Option Command
command_of args = option_and_then command_in (pieces args)

-- Examples: the options in any order and form, and arguments that are no command.
pub record ArgumentRows : Type 0 where
  pub script_alone : command_of (codes "a" ∷ []) ≡ Some (record { mode = Run; net = Real; turns = 1000000000; cut = 4096; script = codes "a" })
  pub all_options : command_of (codes "--mode" ∷ codes "trace" ∷ codes "a" ∷ codes "--net=loop" ∷ codes "--cut" ∷ codes "1" ∷ codes "--turns=999999999999999999" ∷ []) ≡ Some (record { mode = Trace; net = Loop; turns = 999999999999999999; cut = 1; script = codes "a" })
  pub behind_dashes : command_of (codes "--" ∷ codes "--mode" ∷ []) ≡ Some (record { mode = Run; net = Real; turns = 1000000000; cut = 4096; script = codes "--mode" })
  pub load : command_of (codes "--mode" ∷ codes "load" ∷ codes "--net" ∷ codes "real" ∷ codes "10000" ∷ []) ≡ Some (record { mode = Load; net = Loop; turns = 1000000000; cut = 4096; script = codes "10000" })
  pub refused : list_all (λ args. is_none (command_of args)) (
      [] ∷ (codes "--mode" ∷ codes "run" ∷ []) ∷ (codes "a" ∷ codes "b" ∷ []) ∷ (codes "a" ∷ codes "--mode" ∷ []) ∷ (codes "--turns" ∷ codes "0" ∷ codes "x" ∷ []) ∷ (codes "--turns" ∷ codes "01" ∷ codes "x" ∷ [])
      ∷ (codes "--turns=1000000000000000000" ∷ codes "x" ∷ []) ∷ (codes "--cut=4097" ∷ codes "x" ∷ []) ∷ (codes "--cut" ∷ codes "+1" ∷ codes "x" ∷ []) ∷ (codes "--mode" ∷ codes "load" ∷ codes "0" ∷ []) ∷ (codes "--mode=load" ∷ codes "10001" ∷ [])
      ∷ (codes "--mode=run" ∷ codes "--mode=run" ∷ codes "x" ∷ []) ∷ (codes "--mode" ∷ codes "runs" ∷ codes "x" ∷ []) ∷ (codes "--mod=run" ∷ codes "x" ∷ []) ∷ (codes "-x" ∷ []) ∷ (codes "-" ∷ []) ∷ (codes "--help" ∷ []) ∷ (codes "--" ∷ []) ∷ []) ≡ true
