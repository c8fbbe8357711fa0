-- The command that arguments are, from their first piece on.
use Rattle.std.proofs.Common.{Bor, ◌≡◌, ◌∙◌, ℕ, ◌≤◌, ◌<◌, List, [], ◌∷◌, map, length, get_or, Option, Some, None, option_and_then, refl, sym, ap, arith}
use Rattle.dill_base.specs.Maps.{if_some}
use Rattle.relay_command.specs.declared.found.Found.{Found}
use Rattle.relay_command.specs.declared.piece.Piece as coded
use Rattle.relay_command.specs.declared.piece.Piece.TheVariants as spelled
use Rattle.relay_command.specs.Founds.{with_piece, command_after, command_left}
use Rattle.relay_command.specs.Told.{piece_in}
use Rattle.relay_command.specs.Arguments.{Piece, Free, behind, pieces, command_in, command_of}
use Rattle.relay_command.proofs.Leaving.{piece_next, piece_behind, two_free}

-- nothing was found before the first piece
all_left : (all : Option (List Piece)) → command_left (record { mode = None; net = None; turns = None; cut = None; script = None }) all ≡ option_and_then command_in all
all_left None = refl
all_left (Some all) = refl

pub all_args : (found : Found) (args : List (List ℕ)) → found ≡ record { mode = None; net = None; turns = None; cut = None; script = None } → command_left found (pieces args) ≡ command_of args
all_args found args is = ap (λ f. command_left f (pieces args)) is ∙ all_left (pieces args)

module _ {X : Type 0} (text : X → List ℕ) (found : Found) where
  one_arg : (args : List X) (arg : X) (shown : List ℕ) → 1 ≤ length args → length args < 2 → arg ≡ get_or args 0 arg → shown ≡ text arg → map text args ≡ shown ∷ []
  one_arg [] arg shown least most is says = absurd (omega arith)
  one_arg (first ∷ []) arg shown least most is says = rw (says, is)
  one_arg (first ∷ second ∷ others) arg shown least most is says = absurd (omega arith)

  -- one free argument is the last piece
  pub free_last : (more : Found) (free : Bor (List ℕ)) (args : List X) (arg : X) → 1 ≤ length args → length args < 2 → arg ≡ get_or args 0 arg → free.now ≡ text arg → Some more ≡ with_piece found (spelled.Free free) → command_after more [] ≡ command_after found (map Free (map text args))
  free_last more free args arg least most is says found_more =
      sym (ap (λ l. command_after found (map Free l)) (one_arg args arg free.now least most is says) ∙ (piece_next found [] (spelled.Free free) ∙ ap (λ o. if_some o None (λ f. command_after f [])) (sym found_more)))

  -- further free arguments are no command
  pub free_more : (args : List X) → 2 ≤ length args → None ≡ command_after found (map Free (map text args))
  free_more [] least = absurd (omega arith)
  free_more (first ∷ []) least = absurd (omega arith)
  free_more (first ∷ second ∷ others) least = sym (two_free found (text first) (text second) (map Free (map text others)))

  next : (piece : coded.Piece) (args rest left : List X) (arg : X) (shown : List ℕ) → args ≡ arg ∷ rest → shown ≡ text arg → pieces (shown ∷ map text rest) ≡ behind (piece_in piece) (pieces (map text left)) → command_left found (pieces (map text args)) ≡ if_some (with_piece found piece) None (λ more. command_left more (pieces (map text left)))
  next piece args rest left arg shown front says is =
      ap (λ l. command_left found (pieces (map text l))) front ∙ (ap (λ b. command_left found (pieces (b ∷ map text rest))) (sym says) ∙ (ap (command_left found) is ∙ piece_behind found piece (pieces (map text left))))

  -- a piece that can't stand there ends it
  pub stops : (piece : coded.Piece) (args rest left : List X) (arg : X) (shown : List ℕ) → args ≡ arg ∷ rest → shown ≡ text arg → pieces (shown ∷ map text rest) ≡ behind (piece_in piece) (pieces (map text left)) → None ≡ with_piece found piece → None ≡ command_left found (pieces (map text args))
  stops piece args rest left arg shown front says is none =
      sym (next piece args rest left arg shown front says is ∙ ap (λ o. if_some o None (λ more. command_left more (pieces (map text left)))) (sym none))

  -- and else it goes on behind it
  pub goes : (more : Found) (piece : coded.Piece) (args rest left : List X) (arg : X) (shown : List ℕ) → args ≡ arg ∷ rest → shown ≡ text arg → pieces (shown ∷ map text rest) ≡ behind (piece_in piece) (pieces (map text left)) → Some more ≡ with_piece found piece → command_left more (pieces (map text left)) ≡ command_left found (pieces (map text args))
  goes more piece args rest left arg shown front says is some =
      sym (next piece args rest left arg shown front says is ∙ ap (λ o. if_some o None (λ f. command_left f (pieces (map text left)))) (sym some))
