-- Operands are read one behind the other.
use Rattle.std.proofs.Common.{◌≡◌, ℕ, zero, suc, ◌<◌, List, [], ◌∷◌, ◌++◌, length, drop, Option, Some, None, refl, ap, append_assoc, arith}
use Rattle.dill_script.specs.declared.form.Kind.{Kind}
use Rattle.dill_script.specs.declared.form.Operand.{Operand}
use Rattle.dill_script.specs.declared.form.Rest.{Rest}
use Rattle.dill_script.specs.Numbers.{joined}
use Rattle.dill_script.specs.Operands.{operands_of}
use Rattle.dill_script.specs.Tokens.{Token}
use Rattle.relay_lines.specs.Prefixes.{all_before, Takes}

pub join_more : {X : Type 0} (read : List X) (x : X) (others : Option (List X)) → all_before (read ++ x ∷ []) others ≡ all_before read (joined (Some x) others)
join_more read x None = refl
join_more read x (Some others) = ap Some (append_assoc read (x ∷ []) others)

pub takes_more : (reading : List Token → Option (List Operand)) (read after : List Operand) (tokens : List Token) (operand : Operand) (rest : List Token) (all : Option (List Operand)) → all_before read (reading tokens) ≡ all → Takes reading tokens operand rest → after ≡ read ++ operand ∷ [] → all_before after (reading rest) ≡ all
takes_more reading read after tokens operand rest all so_far takes pushed =
    rw (pushed, join_more read operand (reading rest), ← takes.operands) so_far

pub too_few : (kinds : List Kind) (i : ℕ) (rest : Rest) (tokens : List Token) → i < length kinds → length tokens ≡ 0 → operands_of (drop i kinds) rest tokens ≡ None
too_few [] i rest tokens within none = absurd (omega arith)
too_few (kind ∷ kinds) zero rest [] within none = refl
too_few (kind ∷ kinds) zero rest (token ∷ tokens) within none = absurd (omega arith)
too_few (kind ∷ kinds) (suc i) rest tokens within none = too_few kinds i rest tokens (omega arith) none
