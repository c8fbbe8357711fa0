-- The first of a queue.
use Rattle.std.proofs.Common.{◌≡◌, ℕ, List, [], ◌∷◌, true, get_or, refl}
use Rattle.std.specs.List.{remove}
use Rattle.laws_queue.specs.Kept.{has_answer}

pub first_queued : (xs : List ℕ) (d : ℕ) → has_answer xs ≡ true → xs ≡ get_or xs 0 d ∷ remove xs 0
first_queued [] d e = cc
first_queued (x ∷ xs) d e = refl
