-- A link above all others is a new one.
use Rattle.std.proofs.Common.{◌≡◌, ℕ, ◌+◌, ◌<◌, ◌≤◌, List, [], ◌∷◌, Bool, true, false, nat_lt, refl, arith}
use Rattle.std.specs.List.{list_any}
use Rattle.std.proofs.lemmas.Bool.{and_parts, and_from}
use Rattle.std.proofs.lemmas.Grind.{common_steps}
use Rattle.dill_pollset.specs.declared.interest.Interest.{Interest}
use Rattle.dill_pollset.specs.Watching.{is_of, placed, fresh}
use Rattle.link_bench.specs.Below.{is_below, all_below}

less : (a b : ℕ) → nat_lt a b ≡ true → a < b
less a b h = grind (arith, common_steps)

is_less : (a b : ℕ) → a < b → nat_lt a b ≡ true
is_less a b h = grind (arith, common_steps)

not_less : (a b : ℕ) → b ≤ a → nat_lt a b ≡ false
not_less a b h = grind (arith, common_steps)

none_cons : (n : ℕ) (x : Interest) (rest : List Interest) → x.link < n → list_any (is_of n) rest ≡ false → list_any (is_of n) (x ∷ rest) ≡ false
none_cons n x rest low h = grind (arith, common_steps)

pub none_there : (n : ℕ) (xs : List Interest) → all_below n xs ≡ true → list_any (is_of n) xs ≡ false
none_there n [] h = refl
none_there n (x ∷ rest) h =
    let parts = and_parts (is_below n x) (all_below n rest) h in
    none_cons n x rest (less x.link n parts.0) (none_there n rest parts.1)

pub placed_below : (n : ℕ) (xs : List Interest) → all_below n xs ≡ true → all_below (n + 1) (placed (fresh n) xs) ≡ true
placed_below n [] h = and_from _ _ (is_less n (n + 1) (omega arith)) refl
placed_below n (x ∷ rest) h =
    let parts = and_parts (is_below n x) (all_below n rest) h in
    let low : x.link < n = less x.link n parts.0 in
    rw (not_less n x.link (omega (arith, low))) (and_from _ _ (is_less x.link (n + 1) (omega (arith, low))) (placed_below n rest parts.1))

there_here : (n : ℕ) (rest : List Interest) → list_any (is_of n) (fresh n ∷ rest) ≡ true
there_here n rest = grind (arith, common_steps)

there_behind : (n : ℕ) (x : Interest) (rest : List Interest) → list_any (is_of n) rest ≡ true → list_any (is_of n) (x ∷ rest) ≡ true
there_behind n x rest h = grind (arith, common_steps)

there_cons : (n : ℕ) (x : Interest) (rest : List Interest) (b : Bool) → nat_lt n x.link ≡ b → list_any (is_of n) (placed (fresh n) rest) ≡ true → list_any (is_of n) (placed (fresh n) (x ∷ rest)) ≡ true
there_cons n x rest true e h = rw e (there_here n (x ∷ rest))
there_cons n x rest false e h = rw e (there_behind n x (placed (fresh n) rest) h)

pub there : (n : ℕ) (xs : List Interest) → list_any (is_of n) (placed (fresh n) xs) ≡ true
there n [] = there_here n []
there n (x ∷ rest) = there_cons n x rest (nat_lt n x.link) refl (there n rest)
