-- What a child is told has as many numbers as it has arguments.
use Rattle.std.proofs.Common.{◌≡◌, ℕ, ◌+◌, List, [], ◌∷◌, length, refl, ap, suc}
use Rattle.dill_calls.specs.declared.lists.Arg.{Arg}
use Rattle.dill_calls.specs.declared.lists.Arg.TheVariants.{Show, Give}
use Rattle.dill_rules.specs.Effects.{told}

pub told_length : (next : ℕ) (args : List Arg) → length (told next args) ≡ length args
told_length next [] = refl
told_length next (Show number ∷ args) = ap suc (told_length next args)
told_length next (Give number ∷ args) = ap suc (told_length (next + 1) args)
