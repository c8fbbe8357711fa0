-- What digits mean grows with each of them.
use Rattle.std.proofs.Common.{◌≡◌, ◌∙◌, ℕ, ◌+◌, ◌-◌, ◌*◌, ◌<◌, ◌≤◌, List, [], ◌∷◌, length, drop, fold, get_or, false, None, nat_le, sym, arith, add-one}
use Rattle.std.proofs.lemmas.Bool.Decides.{nat_tests}
use Rattle.std.proofs.Math.Seq.{drop-cons}
use Rattle.dill_script.specs.Numbers.{value_of, only_if}

-- what a digit makes of the value of those before it
abbrev pub more : ℕ → ℕ → ℕ
more value digit = 10 * value + (digit - 48)

pub grows : (value : ℕ) (digits : List ℕ) → value ≤ fold more value digits
grows value [] = omega arith
grows value (digit ∷ digits) = omega (arith, grows (more value digit) digits)

-- the value behind the digit at a place
pub next : (value : ℕ) (digits : List ℕ) (i : ℕ) → i < length digits → fold more value (drop i digits) ≡ fold more (more value (get_or digits i 0)) (drop (i + 1) digits)
next value digits i within = rw (add-one, drop-cons digits i 0 within)

pub too_large : (greatest value : ℕ) (digits : List ℕ) (i : ℕ) → fold more value (drop i digits) ≡ value_of digits → i < length digits → greatest < more value (get_or digits i 0) → None ≡ only_if (nat_le (value_of digits) greatest) (value_of digits)
too_large greatest value digits i so_far within large =
    let least : more value (get_or digits i 0) ≤ value_of digits = omega (arith, grows (more value (get_or digits i 0)) (drop (i + 1) digits), sym (next value digits i within) ∙ so_far) in
    let test : nat_le (value_of digits) greatest ≡ false = grind (arith, nat_tests) in
    rw test
