-- The length of a payload, written in its least form and read again.
use Rattle.std.proofs.Common.{◌≡◌, ◌<◌, ◌≤◌, ◌^◌, ◌++◌, ◌∷◌, [], List, ℕ, suc, zero, Bool, true, false, ◌&&◌, ltb, eqb, leb, length, take, arith, sym, ap, ◌∙◌, refl, subst, inl, inr, not, lit<, if◌then◌else◌, lt-ltb, le-ltb}
use Rattle.std.specs.Int.{w16, w64, to_be_bytes, from_be_bytes}
use Rattle.std.proofs.lemmas.Bool.{cases_lt, eqb-true, ltb-true, lt-leb, and_parts, and_from, eq-eqb}
use Rattle.std.proofs.lemmas.Nat.{be_bytes_2, be_bytes_8}
use Rattle.dill_ws.specs.Frames.{length_bits, length_tail, may_follow}
use Rattle.dill_ws.specs.Fronts.{length_size, told, is_least}
use Rattle.dill_ws.specs.FrameLaws.{AreBytes}

-- bits and tail are the length n in its least form
pub record IsForm (n bits : ℕ) (tail : List ℕ) : Type 0 where
  pub seven : bits < 128
  pub bits_are : bits ≡ length_bits n
  pub tail_is : tail ≡ length_tail n
  pub size : length_size bits ≡ length tail
  pub says : (rest : List ℕ) → told bits (tail ++ rest) ≡ n

short_form : (n : ℕ) → n < 126 → IsForm n n []
short_form n h = record {
  seven = omega arith;
  bits_are = rw (lt-ltb n 126 h) refl;
  tail_is = rw (lt-ltb n 126 h) refl;
  size = rw (lt-ltb n 126 h) refl;
  says = λ rest. rw (lt-ltb n 126 h) refl;
}

middle_form : (n : ℕ) → 126 ≤ n → n < 65536 → IsForm n 126 (to_be_bytes w16 n)
middle_form n low high = record {
  seven = omega arith;
  bits_are = rw (le-ltb n 126 low, lt-ltb n 65536 high) refl;
  tail_is = rw (le-ltb n 126 low, lt-ltb n 65536 high) refl;
  size = refl;
  says = λ rest. omega arith;
}

long_form : (n : ℕ) → 65536 ≤ n → n < 2 ^ 63 → IsForm n 127 (to_be_bytes w64 n)
long_form n low high = record {
  seven = omega arith;
  bits_are = rw (le-ltb n 126 (omega arith), le-ltb n 65536 low) refl;
  tail_is = rw (le-ltb n 126 (omega arith), le-ltb n 65536 low) refl;
  size = refl;
  says = λ rest. omega arith;
}

written : (n bits : ℕ) (tail : List ℕ) → IsForm n bits tail → IsForm n (length_bits n) (length_tail n)
written n bits tail f = subst (λ (b : ℕ). IsForm n b (length_tail n)) f.bits_are (subst (λ (t : List ℕ). IsForm n bits t) f.tail_is f)

-- what is written
pub form_of : (n : ℕ) → n < 2 ^ 63 → IsForm n (length_bits n) (length_tail n)
form_of n h =
    elim (cases_lt n 126) [
      | inl p ↦ written n n [] (short_form n p)
      | inr p ↦ elim (cases_lt n 65536) [
        | inl q ↦ written n 126 (to_be_bytes w16 n) (middle_form n p q)
        | inr q ↦ written n 127 (to_be_bytes w64 n) (long_form n q h)
      ]
    ]

pub least_of_form : (n bits : ℕ) → n < 2 ^ 63 → bits ≡ length_bits n → is_least bits n ≡ true
least_of_form n bits h e = and_from _ _ (eq-eqb (length_bits n) bits (sym e)) (lt-ltb n (2 ^ 63) h)

pub front_bytes : (n : ℕ) (v : List ℕ) → AreBytes v → AreBytes (take n v)
front_bytes zero v h k = omega arith
front_bytes (suc n) [] h k = omega arith
front_bytes (suc n) (x ∷ v) h zero = h zero
front_bytes (suc n) (x ∷ v) h (suc k) = front_bytes n v (λ j. h (suc j)) k

two_bytes : (v : List ℕ) → AreBytes v → 2 ≤ length v → take 2 v ≡ to_be_bytes w16 (from_be_bytes w16 v)
two_bytes [] h l = absurd (omega arith)
two_bytes (a ∷ []) h l = absurd (omega arith)
two_bytes (a ∷ b ∷ v) h l = sym (be_bytes_2 (a ∷ b ∷ []) (from_be_bytes w16 (a ∷ b ∷ v)) refl (cells a b (h 0) (h 1)) refl)
  where
    cells : (a b : ℕ) → a < 256 → b < 256 → AreBytes (a ∷ b ∷ [])
    cells a b p q zero = p
    cells a b p q (suc zero) = q
    cells a b p q (suc (suc k)) = omega arith

eight_bytes : (v : List ℕ) → AreBytes v → 8 ≤ length v → take 8 v ≡ to_be_bytes w64 (from_be_bytes w64 v)
eight_bytes [] h l = absurd (omega arith)
eight_bytes (a ∷ []) h l = absurd (omega arith)
eight_bytes (a ∷ b ∷ []) h l = absurd (omega arith)
eight_bytes (a ∷ b ∷ c ∷ []) h l = absurd (omega arith)
eight_bytes (a ∷ b ∷ c ∷ d ∷ []) h l = absurd (omega arith)
eight_bytes (a ∷ b ∷ c ∷ d ∷ e ∷ []) h l = absurd (omega arith)
eight_bytes (a ∷ b ∷ c ∷ d ∷ e ∷ f ∷ []) h l = absurd (omega arith)
eight_bytes (a ∷ b ∷ c ∷ d ∷ e ∷ f ∷ g ∷ []) h l = absurd (omega arith)
eight_bytes (a ∷ b ∷ c ∷ d ∷ e ∷ f ∷ g ∷ i ∷ v) h l =
    sym (be_bytes_8 (a ∷ b ∷ c ∷ d ∷ e ∷ f ∷ g ∷ i ∷ []) (from_be_bytes w64 (a ∷ b ∷ c ∷ d ∷ e ∷ f ∷ g ∷ i ∷ v)) refl (front_bytes 8 (a ∷ b ∷ c ∷ d ∷ e ∷ f ∷ g ∷ i ∷ v) h) refl)

-- a form that is read as the least one is the one that is written
pub record IsReadForm (bits n : ℕ) (v : List ℕ) : Type 0 where
  pub bits_are : bits ≡ length_bits n
  pub tail_is : take (length_size bits) v ≡ length_tail n
  pub fits : n < 2 ^ 63

tail_of_bits : (n : ℕ) → length_bits n ≡ 126 → length_tail n ≡ to_be_bytes w16 n
tail_of_bits n e =
    elim (cases_lt n 126) [
      | inl p ↦ absurd (omega (arith, rw (lt-ltb n 126 p) at e))
      | inr p ↦ elim (cases_lt n 65536) [
        | inl q ↦ rw (le-ltb n 126 p, lt-ltb n 65536 q) refl
        | inr q ↦ absurd (omega (arith, rw (le-ltb n 126 p, le-ltb n 65536 q) at e))
      ]
    ]

long_tail_of_bits : (n : ℕ) → length_bits n ≡ 127 → length_tail n ≡ to_be_bytes w64 n
long_tail_of_bits n e =
    elim (cases_lt n 126) [
      | inl p ↦ absurd (omega (arith, rw (lt-ltb n 126 p) at e))
      | inr p ↦ elim (cases_lt n 65536) [
        | inl q ↦ absurd (omega (arith, rw (le-ltb n 126 p, lt-ltb n 65536 q) at e))
        | inr q ↦ rw (le-ltb n 126 p, le-ltb n 65536 q) refl
      ]
    ]

least_bits : (bits n : ℕ) → is_least bits n ≡ true → (bits ≡ length_bits n) × (n < 2 ^ 63)
least_bits bits n h =
    let k : (eqb (length_bits n) bits ≡ true) × (ltb n (2 ^ 63) ≡ true) = and_parts (eqb (length_bits n) bits) (ltb n (2 ^ 63)) h in
    (sym (eqb-true (length_bits n) bits k.0), ltb-true n (2 ^ 63) k.1)

read_short : (bits : ℕ) (v : List ℕ) → bits < 126 → IsReadForm bits (told bits v) v
read_short bits v p =
    let e : told bits v ≡ bits = rw (lt-ltb bits 126 p) refl in
    subst (λ (n : ℕ). IsReadForm bits n v) (sym e) (record {
      bits_are = rw (lt-ltb bits 126 p) refl;
      tail_is = rw (lt-ltb bits 126 p) refl;
      fits = omega arith;
    })

read_middle : (v : List ℕ) → AreBytes v → 2 ≤ length v → is_least 126 (from_be_bytes w16 v) ≡ true → IsReadForm 126 (from_be_bytes w16 v) v
read_middle v h l s =
    let k = least_bits 126 (from_be_bytes w16 v) s in
    record {
      bits_are = k.0;
      tail_is = two_bytes v h l ∙ sym (tail_of_bits (from_be_bytes w16 v) (sym k.0));
      fits = k.1;
    }

read_long : (v : List ℕ) → AreBytes v → 8 ≤ length v → is_least 127 (from_be_bytes w64 v) ≡ true → IsReadForm 127 (from_be_bytes w64 v) v
read_long v h l s =
    let k = least_bits 127 (from_be_bytes w64 v) s in
    record {
      bits_are = k.0;
      tail_is = eight_bytes v h l ∙ sym (long_tail_of_bits (from_be_bytes w64 v) (sym k.0));
      fits = k.1;
    }

-- what is read
pub read_form : (bits : ℕ) (v : List ℕ) → AreBytes v → bits < 128 → length_size bits ≤ length v → is_least bits (told bits v) ≡ true → IsReadForm bits (told bits v) v
read_form bits v h seven l s =
    elim (cases_lt bits 126) [
      | inl p ↦ read_short bits v p
      | inr p ↦ elim (cases_lt 126 bits) [
        | inl q ↦ at_127 bits (omega arith) l s
        | inr q ↦ at_126 bits (omega arith) l s
      ]
    ]
  where
    at_126 : (b : ℕ) → 126 ≡ b → length_size b ≤ length v → is_least b (told b v) ≡ true → IsReadForm b (told b v) v
    at_126 b e = subst (λ (b : ℕ). length_size b ≤ length v → is_least b (told b v) ≡ true → IsReadForm b (told b v) v) e (read_middle v h)

    at_127 : (b : ℕ) → 127 ≡ b → length_size b ≤ length v → is_least b (told b v) ≡ true → IsReadForm b (told b v) v
    at_127 b e = subst (λ (b : ℕ). length_size b ≤ length v → is_least b (told b v) ≡ true → IsReadForm b (told b v) v) e (read_long v h)

-- what may follow is judged by the seven bits alone
follow_of_bits : (joining fin : Bool) (op m n : ℕ) → leb m 125 ≡ leb n 125 → may_follow joining fin op m ≡ may_follow joining fin op n
follow_of_bits joining fin op m n e = ap (λ (b : Bool). if leb 8 op then leb op 10 && fin && b else if eqb op 0 then joining else leb op 2 && not joining) e

pub bits_follow : (joining fin : Bool) (op n : ℕ) → may_follow joining fin op (length_bits n) ≡ may_follow joining fin op n
bits_follow joining fin op n = follow_of_bits joining fin op (length_bits n) n (short_or_not n)
  where
    short_or_not : (n : ℕ) → leb (length_bits n) 125 ≡ leb n 125
    short_or_not n = elim (cases_lt n 126) [
      | inl p ↦ rw (lt-ltb n 126 p) refl
      | inr p ↦ elim (cases_lt n 65536) [
        | inl q ↦ rw (le-ltb n 126 p, lt-ltb n 65536 q, lt-leb n 125 (omega arith)) refl
        | inr q ↦ rw (le-ltb n 126 p, le-ltb n 65536 q, lt-leb n 125 (omega arith)) refl
      ]
    ]

-- some length has these seven bits
pub some_length : (bits : ℕ) → bits < 128 → (n : ℕ) × (n < 2 ^ 63) × (bits ≡ length_bits n)
some_length bits h =
    elim (cases_lt bits 126) [
      | inl p ↦ (bits, omega arith, rw (lt-ltb bits 126 p) refl)
      | inr p ↦ elim (cases_lt 126 bits) [
        | inl q ↦ (65536, lit< tt, omega arith)
        | inr q ↦ (126, lit< tt, omega arith)
      ]
    ]

-- how many bytes the length has
pub size_bound : (bits : ℕ) → length_size bits ≤ 8
size_bound bits =
    elim (cases_lt bits 126) [
      | inl p ↦ rw (lt-ltb bits 126 p) (omega arith)
      | inr p ↦ rw (le-ltb bits 126 p) (two_or_eight (eqb bits 126))
    ]
  where
    two_or_eight : (b : Bool) → (if b then 2 else 8) ≤ 8
    two_or_eight true = omega arith
    two_or_eight false = omega arith

told_two : (v rest : List ℕ) → 2 ≤ length v → from_be_bytes w16 (v ++ rest) ≡ from_be_bytes w16 v
told_two [] rest l = absurd (omega arith)
told_two (a ∷ []) rest l = absurd (omega arith)
told_two (a ∷ b ∷ v) rest l = refl

told_eight : (v rest : List ℕ) → 8 ≤ length v → from_be_bytes w64 (v ++ rest) ≡ from_be_bytes w64 v
told_eight [] rest l = absurd (omega arith)
told_eight (a ∷ []) rest l = absurd (omega arith)
told_eight (a ∷ b ∷ []) rest l = absurd (omega arith)
told_eight (a ∷ b ∷ c ∷ []) rest l = absurd (omega arith)
told_eight (a ∷ b ∷ c ∷ d ∷ []) rest l = absurd (omega arith)
told_eight (a ∷ b ∷ c ∷ d ∷ e ∷ []) rest l = absurd (omega arith)
told_eight (a ∷ b ∷ c ∷ d ∷ e ∷ f ∷ []) rest l = absurd (omega arith)
told_eight (a ∷ b ∷ c ∷ d ∷ e ∷ f ∷ g ∷ []) rest l = absurd (omega arith)
told_eight (a ∷ b ∷ c ∷ d ∷ e ∷ f ∷ g ∷ i ∷ v) rest l = refl

-- what comes behind changes no length
pub told_more : (bits : ℕ) (v rest : List ℕ) → length_size bits ≤ length v → told bits (v ++ rest) ≡ told bits v
told_more bits v rest l = by_tests (ltb bits 126) (eqb bits 126) l
  where
    by_tests : (p q : Bool) → (if p then 0 else if q then 2 else 8) ≤ length v → (if p then bits else if q then from_be_bytes w16 (v ++ rest) else from_be_bytes w64 (v ++ rest)) ≡ (if p then bits else if q then from_be_bytes w16 v else from_be_bytes w64 v)
    by_tests true q l = refl
    by_tests false true l = told_two v rest l
    by_tests false false l = told_eight v rest l
