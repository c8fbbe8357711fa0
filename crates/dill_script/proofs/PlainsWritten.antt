-- What a plain token was read as is written as that token.
use Rattle.std.proofs.Common.{◌≡◌, ℕ, ◌+◌, ◌-◌, ◌*◌, ◌^◌, ◌<◌, ◌≤◌, List, [], ◌∷◌, length, get_or, fold, find, Bool, true, false, not, ◌&&◌, ◌==◌, cond, nat_le, if◌then◌else◌, Option, Some, None, IfSome, option_map, option_and_then, decimal, bytes_eq, refl, ap, arith, leb-true}
use Rattle.std.specs.List.{list_all}
use Rattle.std.proofs.lemmas.Bool.{eqb-true, eq-eqb, le-leb, and_from, and_parts}
use Rattle.std.proofs.lemmas.Fmt.{decimal-digits_value}
use Rattle.std.proofs.lemmas.Str.Parse.{IsDigitsTest, FoldsDigits, IsNumeralModel, numerals_by_fold}
use Rattle.std.proofs.lemmas.Slice.Eq.{bytes_eq-Decides}
use Rattle.dill_script.specs.declared.line.Register.{Register}
use Rattle.dill_script.specs.declared.line.Register.TheVariants as registers
use Rattle.dill_script.specs.declared.operand.Num.TheVariants as nums
use Rattle.dill_script.specs.Numbers.{named, is_digit, is_decimal, value_of, number_up_to, number_of, register_of}
use Rattle.dill_script.specs.Operands.{number_place, bytes_place, num_of_plain}
use Rattle.dill_script.specs.Printing.{number_register_text, bytes_register_text, num_text}
use Rattle.dill_script.proofs.Options.{if_map, if_or, if_then, if_more, if_test, if_only}

-- plain tokens that are equal by the test are equal
pub bytes_same : (xs ys : List ℕ) → bytes_eq xs ys ≡ true → xs ≡ ys
bytes_same xs ys e = (bytes_eq-Decides xs ys).0 e

found : {X : Type 0} (p : X → Bool) (x : X) (o : Option X) (b : Bool) → p x ≡ b → IfSome o (λ y. p y ≡ true) → IfSome (cond b (Some x) o) (λ y. p y ≡ true)
found p x o true e h = e
found p x o false e h = h

pub find_passes : {X : Type 0} (p : X → Bool) (xs : List X) → IfSome (find p xs) (λ y. p y ≡ true)
find_passes p [] = tt
find_passes p (x ∷ xs) = found p x (find p xs) (p x) refl (find_passes p xs)

-- what a plain token names is written so
pub named_is : {X : Type 0} (text : X → List ℕ) (all : List X) (word : List ℕ) → IfSome (named text all word) (λ x. text x ≡ word)
named_is text all word = if_more (λ x. bytes_eq (text x) word ≡ true) (λ x. text x ≡ word) (named text all word) (λ x e. bytes_same (text x) word e) (find_passes (λ x. bytes_eq (text x) word) all)

digit_range : (c : ℕ) → is_digit c ≡ true → (48 ≤ c) × (c ≤ 57)
digit_range c e = let p = and_parts (nat_le 48 c) (nat_le c 57) e in (leb-true 48 c p.0, leb-true c 57 p.1)

abbrev AreDigits : List ℕ → Type 0
AreDigits ds = list_all is_digit ds ≡ true

range_digit : (c : ℕ) → (48 ≤ c) × (c ≤ 57) → is_digit c ≡ true
range_digit c h = all_true (nat_le 48 c) (nat_le c 57) (le-leb 48 c h.0) (le-leb c 57 h.1)
  where
    all_true : (a b : Bool) → a ≡ true → b ≡ true → (a && b) ≡ true
    all_true a b e f = cc

digits_test : IsDigitsTest AreDigits
digits_test = record {
  empty = refl;
  parts = λ c cs h. let p = and_parts (is_digit c) (list_all is_digit cs) h in (digit_range c p.0, p.1);
  more = λ c cs r h. and_from (is_digit c) (list_all is_digit cs) (range_digit c r) h;
}

abbrev values : ℕ → List ℕ → ℕ
values n ds = fold (λ value digit. 10 * value + (digit - 48)) n ds

fold_digits : FoldsDigits values
fold_digits = record { empty = λ n. refl; more = λ n c cs r. ap (λ m. values m cs) (omega arith) }

own : IsNumeralModel AreDigits value_of
own = numerals_by_fold AreDigits digits_test values fold_digits

-- a decimal plain token is of digits, has one, and a 0 first only alone
decimal_word : (ds : List ℕ) → is_decimal ds ≡ true → AreDigits ds × (0 < length ds) × (get_or ds 0 0 ≡ 48 → length ds ≡ 1)
decimal_word [] e = cc
decimal_word (d ∷ []) e = (and_from (is_digit d) true e refl, omega arith, λ z. refl)
decimal_word (d ∷ c ∷ rest) e =
    let p = and_parts (is_digit d) (not (d == 48) && list_all is_digit (c ∷ rest)) e in
    let q = and_parts (not (d == 48)) (list_all is_digit (c ∷ rest)) p.1 in
    (and_from (is_digit d) (list_all is_digit (c ∷ rest)) p.0 q.1, omega arith, λ z. absurd (not_both (d == 48) (eq-eqb d 48 z) q.0))
  where
    not_both : (b : Bool) → b ≡ true → not b ≡ true → ⊥
    not_both true e f = cc
    not_both false e f = cc

pub number_is : (greatest : ℕ) (word : List ℕ) → greatest < 2 ^ 64 → IfSome (number_up_to greatest word) (λ n. decimal n ≡ word)
number_is greatest word small = if_only (λ n. decimal n ≡ word) (is_decimal word && nat_le (value_of word) greatest) (value_of word) (λ e.
    let p = and_parts (is_decimal word) (nat_le (value_of word) greatest) e in
    let d = decimal_word word p.0 in
    let l : value_of word ≤ greatest = leb-true (value_of word) greatest p.1 in
    decimal-digits_value own word d.0 d.1 d.2 (omega arith))

-- a letter before what is written
pub lettered : (letter c : ℕ) (text rest : List ℕ) → c ≡ letter → text ≡ rest → letter ∷ text ≡ c ∷ rest
lettered letter c text rest e f = cc

-- a register is written by its letter and place
abbrev pub register_text : Register → List ℕ
register_text (registers.Number place) = number_register_text place
register_text (registers.Bytes place) = bytes_register_text place

pub register_is : (word : List ℕ) → IfSome (register_of word) (λ r. register_text r ≡ word)
register_is [] = tt
register_is (letter ∷ rest) =
    let n : IfSome (number_up_to 15 rest) (λ p. decimal p ≡ rest) = number_is 15 rest (omega arith) in
    if_test (λ r. register_text r ≡ letter ∷ rest) (letter == 110) (option_map registers.Number (number_up_to 15 rest)) (if letter == 98 then option_map registers.Bytes (number_up_to 15 rest) else None)
    (λ e. if_map (λ r. register_text r ≡ letter ∷ rest) registers.Number (number_up_to 15 rest) (if_more (λ p. decimal p ≡ rest) (λ p. number_register_text p ≡ letter ∷ rest) (number_up_to 15 rest) (λ p h. lettered 110 letter (decimal p) rest (eqb-true letter 110 e) h) n))
    (λ e. if_test (λ r. register_text r ≡ letter ∷ rest) (letter == 98) (option_map registers.Bytes (number_up_to 15 rest)) None
    (λ f. if_map (λ r. register_text r ≡ letter ∷ rest) registers.Bytes (number_up_to 15 rest) (if_more (λ p. decimal p ≡ rest) (λ p. bytes_register_text p ≡ letter ∷ rest) (number_up_to 15 rest) (λ p h. lettered 98 letter (decimal p) rest (eqb-true letter 98 f) h) n))
    (λ f. tt))

number_place_of : (word : List ℕ) (r : Register) → register_text r ≡ word → IfSome (number_place r) (λ p. number_register_text p ≡ word)
number_place_of word (registers.Number place) e = e
number_place_of word (registers.Bytes place) e = tt

bytes_place_of : (word : List ℕ) (r : Register) → register_text r ≡ word → IfSome (bytes_place r) (λ p. bytes_register_text p ≡ word)
bytes_place_of word (registers.Number place) e = tt
bytes_place_of word (registers.Bytes place) e = e

pub number_register_is : (word : List ℕ) → IfSome (option_and_then number_place (register_of word)) (λ p. number_register_text p ≡ word)
number_register_is word = if_then (λ p. number_register_text p ≡ word) number_place (register_of word) (if_more (λ r. register_text r ≡ word) (λ r. IfSome (number_place r) (λ p. number_register_text p ≡ word)) (register_of word) (λ r e. number_place_of word r e) (register_is word))

pub bytes_register_is : (word : List ℕ) → IfSome (option_and_then bytes_place (register_of word)) (λ p. bytes_register_text p ≡ word)
bytes_register_is word = if_then (λ p. bytes_register_text p ≡ word) bytes_place (register_of word) (if_more (λ r. register_text r ≡ word) (λ r. IfSome (bytes_place r) (λ p. bytes_register_text p ≡ word)) (register_of word) (λ r e. bytes_place_of word r e) (register_is word))

-- NUM is written as it was read
pub num_is : (word : List ℕ) → IfSome (num_of_plain word) (λ n. num_text n ≡ word)
num_is word = if_or (λ n. num_text n ≡ word) (option_map nums.Literal (number_of word)) (option_map nums.Register (option_and_then number_place (register_of word)))
    (if_map (λ n. num_text n ≡ word) nums.Literal (number_of word) (number_is 9223372036854775807 word (omega arith)))
    (if_map (λ n. num_text n ≡ word) nums.Register (option_and_then number_place (register_of word)) (number_register_is word))
