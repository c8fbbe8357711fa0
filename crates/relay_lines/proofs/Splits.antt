-- The parts between separators, and the numbers among them.
use Rattle.std.proofs.Common.{◌≡◌, ◌∙◌, ℕ, suc, ◌+◌, ◌<◌, List, [], ◌∷◌, length, take, drop, map, inl, inr, ◌⊎◌, nat_lt, Bool, true, false, not, ◌&&◌, Option, Some, None, nat_eq, refl, ap, sym, subst, arith, add-one}
use Rattle.std.proofs.lemmas.Bool.{eqb-true, and_parts}
use Rattle.std.proofs.lemmas.Bool.Decides.{nat_tests}
use Rattle.std.proofs.lemmas.List.Sums.{prefix_len-le-length}
use Rattle.std.proofs.Math.Numerals.{one-add}
use Rattle.std.specs.List.{prefix_len, list_all}
use Rattle.dill_script.specs.Lines.{longer}
use Rattle.dill_script.specs.Numbers.{is_digit, is_decimal, number_up_to, parts, joined, each, address_with, address_in, address_of}
use Rattle.relay_lines.specs.Addresses.{ip_in}

module _ (separator : ℕ) where
  -- another byte than the separator
  abbrev pub apart : ℕ → Bool
  apart byte = not (nat_eq byte separator)

  whole_at : (byte : ℕ) (bytes : List ℕ) (test : Bool) → nat_eq byte separator ≡ test → (prefix_len apart bytes ≡ length bytes → parts separator bytes ≡ bytes ∷ []) → prefix_len apart (byte ∷ bytes) ≡ length (byte ∷ bytes) → parts separator (byte ∷ bytes) ≡ (byte ∷ bytes) ∷ []
  whole_at byte bytes true is whole all = let none : 0 ≡ suc (length bytes) = rw is at all in absurd (omega arith)
  whole_at byte bytes false is whole all =
      let all_is : 1 + prefix_len apart bytes ≡ suc (length bytes) = rw is at all in
      rw is (ap (longer byte) (whole (omega arith)))

  pub whole : (bytes : List ℕ) → prefix_len apart bytes ≡ length bytes → parts separator bytes ≡ bytes ∷ []
  whole [] all = refl
  whole (byte ∷ bytes) all = whole_at byte bytes (nat_eq byte separator) refl (whole bytes) all

  abbrev Splits : List ℕ → ℕ → Type 0
  Splits bytes n = parts separator bytes ≡ take n bytes ∷ parts separator (drop (suc n) bytes)

  splits_at : (byte : ℕ) (bytes : List ℕ) (test : Bool) → nat_eq byte separator ≡ test → (prefix_len apart bytes < length bytes → Splits bytes (prefix_len apart bytes)) → prefix_len apart (byte ∷ bytes) < length (byte ∷ bytes) → Splits (byte ∷ bytes) (prefix_len apart (byte ∷ bytes))
  splits_at byte bytes true is splits there = rw is refl
  splits_at byte bytes false is splits there =
      let there_is : 1 + prefix_len apart bytes < suc (length bytes) = rw is at there in
      rw (is, one-add) (ap (longer byte) (splits (omega arith)))

  pub splits : (bytes : List ℕ) → prefix_len apart bytes < length bytes → Splits bytes (prefix_len apart bytes)
  splits [] there = absurd (omega arith)
  splits (byte ∷ bytes) there = splits_at byte bytes (nat_eq byte separator) refl (splits bytes) there

  pub splits_from : (bytes : List ℕ) (n : ℕ) (behind : List ℕ) → n ≡ prefix_len apart bytes → n < length bytes → behind ≡ drop (n + 1) bytes → parts separator bytes ≡ take n bytes ∷ parts separator behind
  splits_from bytes n behind run there slice = rw (slice, add-one, run) (splits bytes (subst (λ (m : ℕ). m < length bytes) run there))

  abbrev NotEmpty : List (List ℕ) → Type 0
  NotEmpty pieces = (first : List ℕ) × (others : List (List ℕ)) × (pieces ≡ first ∷ others)

  longer_some : (byte : ℕ) (pieces : List (List ℕ)) → NotEmpty (longer byte pieces)
  longer_some byte [] = (byte ∷ [], [], refl)
  longer_some byte (piece ∷ pieces) = (byte ∷ piece, pieces, refl)

  parts_at : (byte : ℕ) (bytes : List ℕ) (test : Bool) → nat_eq byte separator ≡ test → NotEmpty (parts separator (byte ∷ bytes))
  parts_at byte bytes true is = ([], parts separator bytes, rw is refl)
  parts_at byte bytes false is =
      let some = longer_some byte (parts separator bytes) in
      (some.0, some.1, rw is some.2)

  -- there is a part at least
  parts_some : (bytes : List ℕ) → NotEmpty (parts separator bytes)
  parts_some [] = ([], [], refl)
  parts_some (byte ∷ bytes) = parts_at byte bytes (nat_eq byte separator) refl

  module _ (no_digit : is_digit separator ≡ false) where
    digit_apart : (byte : ℕ) (test : Bool) → nat_eq byte separator ≡ test → is_digit byte ≡ true → test ≡ false
    digit_apart byte true is digit =
        let same : byte ≡ separator = eqb-true byte separator is in
        let no : true ≡ false = sym digit ∙ (ap is_digit same ∙ no_digit) in
        cc
    digit_apart byte false is digit = refl

    digits_apart : (bytes : List ℕ) → list_all is_digit bytes ≡ true → prefix_len apart bytes ≡ length bytes
    digits_apart [] all = refl
    digits_apart (byte ∷ bytes) all =
        let both = and_parts (is_digit byte) (list_all is_digit bytes) all in
        let is : nat_eq byte separator ≡ false = digit_apart byte (nat_eq byte separator) refl both.0 in
        rw (is, one-add) (ap suc (digits_apart bytes both.1))

    decimal_digits : (bytes : List ℕ) → is_decimal bytes ≡ true → list_all is_digit bytes ≡ true
    decimal_digits [] decimal = refl
    decimal_digits (digit ∷ []) decimal = rw decimal refl
    decimal_digits (digit ∷ next ∷ rest) decimal =
        let both = and_parts (is_digit digit) (not (nat_eq digit 48) && list_all is_digit (next ∷ rest)) decimal in
        let others = and_parts (not (nat_eq digit 48)) (list_all is_digit (next ∷ rest)) both.1 in
        rw both.0 others.1

    no_number : (greatest : ℕ) (bytes : List ℕ) (test : Bool) → is_decimal bytes ≡ test → prefix_len apart bytes < length bytes → number_up_to greatest bytes ≡ None
    no_number greatest bytes true is there = absurd (omega (arith, digits_apart bytes (decimal_digits bytes is)))
    no_number greatest bytes false is there = rw is refl

    -- bytes without a separator, or no number
    abbrev pub LonePart : ℕ → List ℕ → Type 0
    LonePart greatest bytes = (parts separator bytes ≡ bytes ∷ []) ⊎ ((first second : List ℕ) × (others : List (List ℕ)) × (parts separator bytes ≡ first ∷ second ∷ others) × (number_up_to greatest bytes ≡ None))

    lone_at : (greatest : ℕ) (bytes : List ℕ) (test : Bool) → nat_lt (prefix_len apart bytes) (length bytes) ≡ test → LonePart greatest bytes
    lone_at greatest bytes true is =
        let there : prefix_len apart bytes < length bytes = grind (arith, nat_tests) in
        let some = parts_some (drop (suc (prefix_len apart bytes)) bytes) in
        inr (take (prefix_len apart bytes) bytes, some.0, some.1, splits bytes there ∙ ap (λ (l : List (List ℕ)). take (prefix_len apart bytes) bytes ∷ l) some.2, no_number greatest bytes (is_decimal bytes) refl there)
    lone_at greatest bytes false is =
        let within = prefix_len-le-length apart bytes in
        let all : prefix_len apart bytes ≡ length bytes = grind (arith, nat_tests) in
        inl (whole bytes all)

    pub lone_part : (greatest : ℕ) (bytes : List ℕ) → LonePart greatest bytes
    lone_part greatest bytes = lone_at greatest bytes (nat_lt (prefix_len apart bytes) (length bytes)) refl

joined_none : {X : Type 0} (first : Option X) → joined first None ≡ None
joined_none None = refl
joined_none (Some x) = refl

four_none : (a b c d : List ℕ) → number_up_to 255 d ≡ None → each (number_up_to 255) (a ∷ b ∷ c ∷ d ∷ []) ≡ None
four_none a b c d none = rw (none, joined_none (number_up_to 255 c), joined_none (number_up_to 255 b), joined_none (number_up_to 255 a)) refl

pub ip_four : (word first behind second rest third fourth : List ℕ) → parts 46 word ≡ first ∷ parts 46 behind → parts 46 behind ≡ second ∷ parts 46 rest → parts 46 rest ≡ third ∷ parts 46 fourth → each (number_up_to 255) (first ∷ second ∷ third ∷ fourth ∷ []) ≡ ip_in (parts 46 word)
ip_four word a behind b rest c d at_a at_b at_c =
    elim (lone_part 46 refl 255 d) as (λ _. each (number_up_to 255) (a ∷ b ∷ c ∷ d ∷ []) ≡ ip_in (parts 46 word)) [
      | inl alone ↦ rw (at_a, at_b, at_c, alone) refl
      | inr more ↦ rw (at_a, at_b, at_c, more.3) (four_none a b c d more.4)
    ]

-- the port, from the parts of the parts behind the first
abbrev port_in : List (List (List ℕ)) → Option ℕ
port_in ((port ∷ []) ∷ []) = number_up_to 65535 port
port_in _ = None

with_none : (ip : Option (List ℕ)) → address_with ip None ≡ None
with_none None = refl
with_none (Some ip) = refl

four_with : (a b c d : List ℕ) (rest : List (List (List ℕ))) → address_in ((a ∷ b ∷ c ∷ d ∷ []) ∷ rest) ≡ address_with (ip_in (a ∷ b ∷ c ∷ d ∷ [])) (port_in rest)
four_with a b c d [] = sym (with_none (ip_in (a ∷ b ∷ c ∷ d ∷ [])))
four_with a b c d ([] ∷ others) = sym (with_none (ip_in (a ∷ b ∷ c ∷ d ∷ [])))
four_with a b c d ((port ∷ []) ∷ []) = refl
four_with a b c d ((port ∷ []) ∷ other ∷ others) = sym (with_none (ip_in (a ∷ b ∷ c ∷ d ∷ [])))
four_with a b c d ((port ∷ next ∷ more) ∷ others) = sym (with_none (ip_in (a ∷ b ∷ c ∷ d ∷ [])))

address_split : (ip : List (List ℕ)) (rest : List (List (List ℕ))) → address_in (ip ∷ rest) ≡ address_with (ip_in ip) (port_in rest)
address_split [] rest = refl
address_split (a ∷ []) rest = refl
address_split (a ∷ b ∷ []) rest = refl
address_split (a ∷ b ∷ c ∷ []) rest = refl
address_split (a ∷ b ∷ c ∷ d ∷ []) rest = four_with a b c d rest
address_split (a ∷ b ∷ c ∷ d ∷ e ∷ more) rest = refl

port_dots : (port : List ℕ) → port_in (parts 46 port ∷ []) ≡ number_up_to 65535 port
port_dots port =
    elim (lone_part 46 refl 65535 port) as (λ _. port_in (parts 46 port ∷ []) ≡ number_up_to 65535 port) [
      | inl alone ↦ rw alone refl
      | inr more ↦ rw (more.3, more.4) refl
    ]

port_colons : (port : List ℕ) → port_in (map (parts 46) (parts 58 port)) ≡ number_up_to 65535 port
port_colons port =
    elim (lone_part 58 refl 65535 port) as (λ _. port_in (map (parts 46) (parts 58 port)) ≡ number_up_to 65535 port) [
      | inl alone ↦ rw alone (port_dots port)
      | inr more ↦ rw (more.3, more.4) (more_none (parts 46 more.0) (parts 46 more.1) (map (parts 46) more.2))
    ]
  where
    more_none : (first second : List (List ℕ)) (others : List (List (List ℕ))) → port_in (first ∷ second ∷ others) ≡ None
    more_none [] second others = refl
    more_none (piece ∷ []) second others = refl
    more_none (piece ∷ next ∷ pieces) second others = refl

pub address_at : (word ip port : List ℕ) → parts 58 word ≡ ip ∷ parts 58 port → address_with (ip_in (parts 46 ip)) (number_up_to 65535 port) ≡ address_of word
address_at word ip port at = rw at (sym (address_split (parts 46 ip) (map (parts 46) (parts 58 port)) ∙ ap (address_with (ip_in (parts 46 ip))) (port_colons port)))
