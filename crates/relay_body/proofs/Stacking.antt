-- What holds of slots that are taken.
use Rattle.std.proofs.Common.{◌≡◌, ℕ, zero, suc, List, [], ◌∷◌, drop, map, refl}
use Rattle.dill_meaning.specs.Effects.{outside}
use Rattle.relay_body.specs.declared.rounds.OpenLoop.{OpenLoop}
use Rattle.relay_body.specs.Stacks.{round_of}

-- a slot less
pub outside_drop : (slots : List OpenLoop) (n : ℕ) → map round_of (drop (suc n) slots) ≡ outside (map round_of (drop n slots))
outside_drop [] zero = refl
outside_drop [] (suc n) = refl
outside_drop (slot ∷ slots) zero = refl
outside_drop (slot ∷ slots) (suc n) = outside_drop slots n
