-- The pieces of arguments, from the first argument on.
use Rattle.std.proofs.Common.{◌≡◌, ◌∙◌, ℕ, List, [], ◌∷◌, map, find, bytes_eq, codes, Bool, true, false, if◌then◌else◌, Option, Some, None, IfSome, refl, sym, ap, subst}
use Rattle.dill_base.specs.Maps.{if_some, first_some}
use Rattle.dill_script.proofs.PlainsWritten.{find_passes, bytes_same}
use Rattle.relay_command.specs.Told.{alone}
use Rattle.relay_command.specs.Arguments.{Piece, Value, Free, options, joined, behind, begins_with_dash, ends_options, piece_first, pieces}

-- behind `--` every argument is free
pub dashes : (arg : List ℕ) (args : List (List ℕ)) → arg ≡ codes "--" → pieces (arg ∷ args) ≡ Some (map Free args)
dashes arg [] is = rw is
dashes arg (next ∷ args) is = rw is

-- what is found of options is the argument itself
found_same : (arg option : List ℕ) → Some option ≡ find (bytes_eq arg) options → arg ≡ option
found_same arg option is =
    let passes = subst (λ o. IfSome o (λ y. bytes_eq arg y ≡ true)) (sym is) (find_passes (bytes_eq arg) options) in
    bytes_same arg option passes

-- an option with the argument behind it
pub option_next : (arg option next : List ℕ) (args : List (List ℕ)) → ends_options arg ≡ false → Some option ≡ find (bytes_eq arg) options → pieces (arg ∷ next ∷ args) ≡ behind (Value option next) (pieces args)
option_next arg option next args ends is =
    let same = found_same arg option is in
    rw (ends, sym is) (ap (λ o. behind (Value o next) (pieces args)) same)

-- an option that is the last argument
pub option_last : (arg option : List ℕ) → ends_options arg ≡ false → Some option ≡ find (bytes_eq arg) options → pieces (arg ∷ []) ≡ None
option_last arg option ends is = rw (ends, sym is)

-- an argument that is no option by itself
none_next : (arg : List ℕ) (args : List (List ℕ)) → ends_options arg ≡ false → None ≡ find (bytes_eq arg) options → pieces (arg ∷ args) ≡ piece_first arg (pieces args)
none_next arg [] ends is = rw (ends, sym is)
none_next arg (next ∷ args) ends is = rw (ends, sym is)

first_alone : (arg : List ℕ) (o : Option Piece) (dash : Bool) (rest : Option (List Piece)) → if_some o (if dash then None else behind (Free arg) rest) (λ piece. behind piece rest) ≡ if_some (if_some o (if dash then None else Some (Free arg)) Some) None (λ piece. behind piece rest)
first_alone arg (Some piece) dash rest = refl
first_alone arg None true rest = refl
first_alone arg None false rest = refl

pub alone_next : (arg : List ℕ) (args : List (List ℕ)) → ends_options arg ≡ false → None ≡ find (bytes_eq arg) options → pieces (arg ∷ args) ≡ if_some (alone arg) None (λ piece. behind piece (pieces args))
alone_next arg args ends is = none_next arg args ends is ∙ first_alone arg (first_some (joined arg) options) (begins_with_dash arg) (pieces args)

module _ {X : Type 0} (text : X → List ℕ) where
  -- an option with the first of the arguments behind it
  pub option_with : (arg bytes option value : List ℕ) (next : X) (rest left : List X) → ends_options arg ≡ false → bytes ≡ arg → Some option ≡ find (bytes_eq bytes) options → rest ≡ next ∷ left → value ≡ text next → pieces (arg ∷ map text rest) ≡ behind (Value option value) (pieces (map text left))
  option_with arg bytes option value next rest left ends same is front shown =
      rw (front, shown) (option_next arg option (text next) (map text left) ends (is ∙ ap (λ b. find (bytes_eq b) options) same))

  -- an argument that says something alone
  pub alone_with : (arg bytes : List ℕ) (piece : Piece) (rest : List X) → ends_options arg ≡ false → bytes ≡ arg → None ≡ find (bytes_eq bytes) options → Some piece ≡ alone arg → pieces (arg ∷ map text rest) ≡ behind piece (pieces (map text rest))
  alone_with arg bytes piece rest ends same is says =
      alone_next arg (map text rest) ends (is ∙ ap (λ b. find (bytes_eq b) options) same) ∙ ap (λ o. if_some o None (λ p. behind p (pieces (map text rest)))) (sym says)
