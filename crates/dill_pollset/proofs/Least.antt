-- The least link that is due, one after the other.
use Rattle.std.proofs.Common.{◌≡◌, ℕ, List, ◌∷◌, Bool, Option, Some, None, refl, ap, arith}
use Rattle.dill_pollset.specs.declared.interest.Interest.{Interest}
use Rattle.dill_pollset.specs.Watching.{lesser, due_above, next_due}

pub lesser_none : (a : Option ℕ) → lesser a None ≡ a
lesser_none None = refl
lesser_none (Some a) = refl

lesser_three : (a b c : Option ℕ) → lesser (lesser a b) c ≡ lesser a (lesser b c)
lesser_three None b c = refl
lesser_three (Some a) None c = refl
lesser_three (Some a) (Some b) None = refl
lesser_three (Some a) (Some b) (Some c) = ap (λ n. Some n) (omega arith)

-- the least so far, and the least of what is left
pub lesser_next : (least : Option ℕ) (read : Bool) (after : ℕ) (x : Interest) (rest : List Interest) → lesser (lesser least (due_above read after x)) (next_due read after rest) ≡ lesser least (next_due read after (x ∷ rest))
lesser_next least read after x rest = lesser_three least (due_above read after x) (next_due read after rest)
