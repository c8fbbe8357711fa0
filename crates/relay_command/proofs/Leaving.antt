-- What was found, piece by piece, is the command that all pieces are.
use Rattle.std.proofs.Common.{Bor, ◌≡◌, ◌∙◌, ℕ, List, [], ◌∷◌, filter_map, codes, Option, Some, None, option_map, refl, sym, ap}
use Rattle.dill_base.specs.Maps.{if_some}
use Rattle.relay_command.specs.declared.command.Mode.{Mode}
use Rattle.relay_command.specs.declared.command.Mode.TheVariants.{Run}
use Rattle.relay_command.specs.declared.command.Net.{Net}
use Rattle.relay_command.specs.declared.command.Net.TheVariants.{Real}
use Rattle.relay_command.specs.declared.found.Found.{Found}
use Rattle.relay_command.specs.declared.piece.Flag.{Flag}
use Rattle.relay_command.specs.declared.piece.Flag.TheVariants as flags
use Rattle.relay_command.specs.declared.piece.Piece as coded
use Rattle.relay_command.specs.declared.piece.Piece.TheVariants as spelled
use Rattle.relay_command.specs.Founds.{once, with_value, with_piece, said_after, only_after, made, command_after, command_left}
use Rattle.relay_command.specs.Told.{flag_text, piece_in}
use Rattle.relay_command.specs.Arguments.{Piece, Value, Free, mode_of, net_of, number_within, most_turns, value_for, free_arg, behind}

-- nothing, whatever is there
pub if_none : {A B : Type 0} (o : Option A) → if_some {B = Option B} o None (λ a. None) ≡ None
if_none None = refl
if_none (Some a) = refl

if_same : {A : Type 0} (o : Option A) → o ≡ if_some o None Some
if_same None = refl
if_same (Some a) = refl

-- an option's value before the others
slot : {X : Type 0} (before : Option X) (read : List ℕ → Option X) (default : X) (value : List ℕ) (values : List (List ℕ)) → said_after before read default (value ∷ values) ≡ if_some (once before (read value)) None (λ x. said_after (Some x) read default values)
slot (Some x) read default value values = refl
slot None read default value [] = if_same (read value)
slot None read default value (other ∷ values) = sym (if_none (read value))

-- a command lacks a part
no_net : (modes : Option Mode) (most cuts : Option ℕ) (scripts : Option (List ℕ)) → made modes None most cuts scripts ≡ None
no_net modes most cuts scripts = if_none modes

no_turns : (modes : Option Mode) (nets : Option Net) (cuts : Option ℕ) (scripts : Option (List ℕ)) → made modes nets None cuts scripts ≡ None
no_turns None nets cuts scripts = refl
no_turns (Some mode) nets cuts scripts = if_none nets

no_cut : (modes : Option Mode) (nets : Option Net) (most : Option ℕ) (scripts : Option (List ℕ)) → made modes nets most None scripts ≡ None
no_cut None nets most scripts = refl
no_cut (Some mode) None most scripts = refl
no_cut (Some mode) (Some net) most scripts = if_none most

pub no_script : (modes : Option Mode) (nets : Option Net) (most cuts : Option ℕ) → made modes nets most cuts None ≡ None
no_script None nets most cuts = refl
no_script (Some mode) None most cuts = refl
no_script (Some mode) (Some net) None cuts = refl
no_script (Some mode) (Some net) (Some turns) cuts = if_none cuts

module _ (found : Found) (all : List Piece) where
  abbrev modes : Option Mode → Option Mode
  modes before = said_after before mode_of Run (filter_map (value_for (codes "--mode")) all)

  abbrev nets : Option Net → Option Net
  nets before = said_after before net_of Real (filter_map (value_for (codes "--net")) all)

  abbrev most : Option ℕ → Option ℕ
  most before = said_after before (number_within 1 most_turns) 1000000000 (filter_map (value_for (codes "--turns")) all)

  abbrev cuts : Option ℕ → Option ℕ
  cuts before = said_after before (number_within 1 4096) 4096 (filter_map (value_for (codes "--cut")) all)

  abbrev scripts : Option (List ℕ) → Option (List ℕ)
  scripts before = only_after before (filter_map free_arg all)

  abbrev arg : Option (List ℕ)
  arg = option_map (λ arg. arg.now) found.script

  mode_first : (o : Option Mode) → made (if_some o None (λ x. modes (Some x))) (nets found.net) (most found.turns) (cuts found.cut) (scripts arg) ≡ if_some (option_map (λ mode. record found { mode = Some mode }) o) None (λ more. command_after more all)
  mode_first None = refl
  mode_first (Some mode) = refl

  net_first : (o : Option Net) → made (modes found.mode) (if_some o None (λ x. nets (Some x))) (most found.turns) (cuts found.cut) (scripts arg) ≡ if_some (option_map (λ net. record found { net = Some net }) o) None (λ more. command_after more all)
  net_first None = no_net (modes found.mode) (most found.turns) (cuts found.cut) (scripts arg)
  net_first (Some net) = refl

  turns_first : (o : Option ℕ) → made (modes found.mode) (nets found.net) (if_some o None (λ x. most (Some x))) (cuts found.cut) (scripts arg) ≡ if_some (option_map (λ turns. record found { turns = Some turns }) o) None (λ more. command_after more all)
  turns_first None = no_turns (modes found.mode) (nets found.net) (cuts found.cut) (scripts arg)
  turns_first (Some turns) = refl

  cut_first : (o : Option ℕ) → made (modes found.mode) (nets found.net) (most found.turns) (if_some o None (λ x. cuts (Some x))) (scripts arg) ≡ if_some (option_map (λ cut. record found { cut = Some cut }) o) None (λ more. command_after more all)
  cut_first None = no_cut (modes found.mode) (nets found.net) (most found.turns) (scripts arg)
  cut_first (Some cut) = refl

  value_first : (flag : Flag) (value : List ℕ) → command_after found (Value (flag_text flag) value ∷ all) ≡ if_some (with_value found flag value) None (λ more. command_after more all)
  value_first flags.Mode value =
      ap (λ o. made o (nets found.net) (most found.turns) (cuts found.cut) (scripts arg)) (slot found.mode mode_of Run value (filter_map (value_for (codes "--mode")) all)) ∙ mode_first (once found.mode (mode_of value))
  value_first flags.Net value =
      ap (λ o. made (modes found.mode) o (most found.turns) (cuts found.cut) (scripts arg)) (slot found.net net_of Real value (filter_map (value_for (codes "--net")) all)) ∙ net_first (once found.net (net_of value))
  value_first flags.Turns value =
      ap (λ o. made (modes found.mode) (nets found.net) o (cuts found.cut) (scripts arg)) (slot found.turns (number_within 1 most_turns) 1000000000 value (filter_map (value_for (codes "--turns")) all)) ∙ turns_first (once found.turns (number_within 1 most_turns value))
  value_first flags.Cut value =
      ap (λ o. made (modes found.mode) (nets found.net) (most found.turns) o (scripts arg)) (slot found.cut (number_within 1 4096) 4096 value (filter_map (value_for (codes "--cut")) all)) ∙ cut_first (once found.cut (number_within 1 4096 value))

  only_first : (before : Option (List ℕ)) (w : List ℕ) (args : List (List ℕ)) → only_after before (w ∷ args) ≡ if_some (once before (Some w)) None (λ x. only_after (Some x) args)
  only_first (Some other) w args = refl
  only_first None w [] = refl
  only_first None w (other ∷ args) = refl

  free_first : (before : Option (Bor (List ℕ))) (free : Bor (List ℕ)) → made (modes found.mode) (nets found.net) (most found.turns) (cuts found.cut) (only_after (option_map (λ w. w.now) before) (free.now ∷ filter_map free_arg all)) ≡ if_some (option_map (λ script. record found { script = Some script }) (once before (Some free))) None (λ more. command_after more all)
  free_first (Some other) free = no_script (modes found.mode) (nets found.net) (most found.turns) (cuts found.cut)
  free_first None free = ap (λ o. made (modes found.mode) (nets found.net) (most found.turns) (cuts found.cut) o) (only_first None free.now (filter_map free_arg all))

  -- the command behind a piece, where there are more of them
  pub piece_next : (piece : coded.Piece) → command_after found (piece_in piece ∷ all) ≡ if_some (with_piece found piece) None (λ more. command_after more all)
  piece_next (spelled.Value flag value) = value_first flag value.now
  piece_next (spelled.Free free) = free_first found.script free

-- the command behind a piece
pub piece_behind : (found : Found) (piece : coded.Piece) (all : Option (List Piece)) → command_left found (behind (piece_in piece) all) ≡ if_some (with_piece found piece) None (λ more. command_left more all)
piece_behind found piece None = sym (if_none (with_piece found piece))
piece_behind found piece (Some all) = piece_next found all piece

-- two free arguments are no command
pub two_free : (found : Found) (first second : List ℕ) (all : List Piece) → command_after found (Free first ∷ Free second ∷ all) ≡ None
two_free found first second all =
    ap (λ o. made (modes found all found.mode) (nets found all found.net) (most found all found.turns) (cuts found all found.cut) o) (two_words (option_map (λ w. w.now) found.script)) ∙ no_script (modes found all found.mode) (nets found all found.net) (most found all found.turns) (cuts found all found.cut)
  where
    two_words : (before : Option (List ℕ)) → only_after before (first ∷ second ∷ filter_map free_arg all) ≡ None
    two_words None = refl
    two_words (Some other) = refl
