-- Blocks with the outermost first, and as they are seen, with the innermost first.
use Rattle.std.proofs.Common.{◌≡◌, ◌∙◌, ℕ, List, [], ◌∷◌, ◌++◌, length, reverse, Bool, refl, ap, sym, arith}
use Rattle.std.specs.List.{list_any, sum_by}
use Rattle.std.proofs.lemmas.List.{reverse-append, length-reverse}
use Rattle.std.proofs.lemmas.List.Sums.{sum_by-append}
use Rattle.std.proofs.lemmas.List.Sorted.{list_any-IsPermutation, IsPermutation-reverse}
use Rattle.dill_script.specs.declared.line.Block.{Block}
use Rattle.dill_script.specs.Blocks.{loops}

pub any_reversed : (p : Block → Bool) (xs : List Block) → list_any p (reverse xs) ≡ list_any p xs
any_reversed p xs = sym (list_any-IsPermutation p xs (reverse xs) (IsPermutation-reverse xs))

reverse_front : {X : Type 0} (x : X) (xs : List X) → reverse (x ∷ xs) ≡ reverse xs ++ x ∷ []
reverse_front x xs = reverse-append (x ∷ []) xs

sum_reversed : {X : Type 0} (f : X → ℕ) (xs : List X) → sum_by f (reverse xs) ≡ sum_by f xs
sum_reversed f [] = refl
sum_reversed f (x ∷ xs) =
    ap (sum_by f) (reverse_front x xs) ∙ omega (arith, sum_by-append f (reverse xs) (x ∷ []), sum_by-append f (x ∷ []) xs, sum_reversed f xs)

pub loops_reversed : (xs : List Block) → loops (reverse xs) ≡ loops xs
loops_reversed xs = sum_reversed _ xs

pub depth_reversed : (xs : List Block) → length (reverse xs) ≡ length xs
depth_reversed xs = length-reverse xs
