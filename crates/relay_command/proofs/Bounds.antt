-- The numbers of a command are within their bounds, and a load names its clients.
use Rattle.std.proofs.Common.{◌≡◌, ℕ, ◌≤◌, List, [], ◌∷◌, Bool, true, false, ◌&&◌, nat_le, Option, Some, None, filter_map, codes, option_map, option_and_then, is_some, IfSome, IsSome, arith, refl, lit≤}
use Rattle.std.proofs.lemmas.Bool.Decides.{nat_tests}
use Rattle.dill_script.proofs.Options.{if_only}
use Rattle.dill_script.specs.Numbers.{number_up_to, is_decimal, value_of, only_if}
use Rattle.relay_command.specs.declared.command.Command as stated
use Rattle.relay_command.specs.declared.command.Mode.{Mode}
use Rattle.relay_command.specs.declared.command.Mode.TheVariants.{Run, Trace, Check, Load}
use Rattle.relay_command.specs.declared.command.Net.{Net}
use Rattle.relay_command.specs.declared.command.Net.TheVariants.{Real}
use Rattle.relay_command.specs.Founds.{made}
use Rattle.relay_command.specs.Told.{told}
use Rattle.relay_command.specs.Arguments.{Command, Piece, mode_of, net_of, number_within, most_turns, value_for, free_arg, only, said, option_in, settled_as, command_in, pieces, command_of}

pub record Within (from to n : ℕ) : Type 0 where
  pub least : from ≤ n
  pub most : n ≤ to

pub record Consistent (command : Command) : Type 0 where
  pub turns : Within 1 most_turns command.turns
  pub cut : Within 1 4096 command.cut
  pub load : command.mode ≡ Load → IsSome (number_within 1 10000 command.script)

module _ (least greatest : ℕ) where
  at_least : (n : ℕ) → n ≤ greatest → IfSome (only_if (nat_le least n) n) (Within least greatest)
  at_least n most = if_only (Within least greatest) (nat_le least n) n (λ is. record { least = grind (arith, nat_tests); most = most })

  up_to : (arg : List ℕ) → IfSome (number_up_to greatest arg) (λ n. n ≤ greatest)
  up_to arg = at_most (is_decimal arg) (nat_le (value_of arg) greatest) (value_of arg) refl
    where
      at_most : (decimal small : Bool) (n : ℕ) → nat_le n greatest ≡ small → IfSome (only_if (decimal && small) n) (λ m. m ≤ greatest)
      at_most false small n is = tt
      at_most true false n is = tt
      at_most true true n is = grind (arith, nat_tests)

  pub number_is : (arg : List ℕ) → IfSome (number_within least greatest arg) (Within least greatest)
  number_is arg = then (number_up_to greatest arg) (up_to arg)
    where
      then : (o : Option ℕ) → IfSome o (λ n. n ≤ greatest) → IfSome (option_and_then (λ n. only_if (nat_le least n) n) o) (Within least greatest)
      then None most = tt
      then (Some n) most = at_least n most

-- what holds of the default and of each value that is read holds of what is said
said_is : {X : Type 0} (P : X → Type 0) (read : List ℕ → Option X) (default : X) → P default → ((arg : List ℕ) → IfSome (read arg) P) → (values : List (List ℕ)) → IfSome (said read default values) P
said_is P read default at reads [] = at
said_is P read default at reads (value ∷ []) = reads value
said_is P read default at reads (value ∷ second ∷ more) = tt

settled_is : (mode : Mode) (net : Net) (turns cut : ℕ) (script : List ℕ) → Within 1 most_turns turns → Within 1 4096 cut → IfSome (settled_as mode (record { mode = mode; net = net; turns = turns; cut = cut; script = script })) Consistent
settled_is Load net turns cut script bounded fits =
    if_only Consistent (is_some (number_within 1 10000 script)) _ (λ is. record { turns = bounded; cut = fits; load = λ same. is })
settled_is Run net turns cut script bounded fits = record { turns = bounded; cut = fits; load = λ same. cc }
settled_is Trace net turns cut script bounded fits = record { turns = bounded; cut = fits; load = λ same. cc }
settled_is Check net turns cut script bounded fits = record { turns = bounded; cut = fits; load = λ same. cc }

made_is : (modes : Option Mode) (nets : Option Net) (most cuts : Option ℕ) (scripts : Option (List ℕ)) → IfSome most (Within 1 most_turns) → IfSome cuts (Within 1 4096) → IfSome (made modes nets most cuts scripts) Consistent
made_is None nets most cuts scripts bounded fits = tt
made_is (Some mode) None most cuts scripts bounded fits = tt
made_is (Some mode) (Some net) None cuts scripts bounded fits = tt
made_is (Some mode) (Some net) (Some turns) None scripts bounded fits = tt
made_is (Some mode) (Some net) (Some turns) (Some cut) None bounded fits = tt
made_is (Some mode) (Some net) (Some turns) (Some cut) (Some script) bounded fits = settled_is mode net turns cut script bounded fits

in_is : (all : List Piece) → IfSome (command_in all) Consistent
in_is all =
    made_is (option_in all (codes "--mode") mode_of Run) (option_in all (codes "--net") net_of Real) (option_in all (codes "--turns") (number_within 1 most_turns) 1000000000) (option_in all (codes "--cut") (number_within 1 4096) 4096) (only (filter_map free_arg all))
    (said_is (Within 1 most_turns) (number_within 1 most_turns) 1000000000 (record { least = lit≤ tt; most = lit≤ tt }) (number_is 1 most_turns) (filter_map (value_for (codes "--turns")) all))
    (said_is (Within 1 4096) (number_within 1 4096) 4096 (record { least = lit≤ tt; most = lit≤ tt }) (number_is 1 4096) (filter_map (value_for (codes "--cut")) all))

words_is : (all : Option (List Piece)) → IfSome (option_and_then command_in all) Consistent
words_is None = tt
words_is (Some all) = in_is all

-- a command that arguments are is consistent
pub fitting_args : (args : List (List ℕ)) (result : Option stated.Command) → option_map told result ≡ command_of args → IfSome result (λ command. Consistent (told command))
fitting_args args result is = inner result (rw is (words_is (pieces args)))
  where
    inner : (result : Option stated.Command) → IfSome (option_map told result) Consistent → IfSome result (λ command. Consistent (told command))
    inner None consistent = tt
    inner (Some command) consistent = consistent
