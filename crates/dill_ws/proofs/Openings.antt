-- Bytes 1 and 2 of a frame, written and read again.
use Rattle.std.proofs.Common.{◌≡◌, ◌<◌, ◌≤◌, ◌+◌, ◌/◌, ◌%◌, ℕ, List, Bool, true, false, ◌&&◌, not, eqb, leb, length, Option, Some, None, arith, ◌∙◌, refl, if◌then◌else◌}
use Rattle.std.proofs.lemmas.Bool.{eqb-true, leb-true, leb-false, le-leb, lt-leb, and_parts, and_from, eq-eqb}
use Rattle.dill_ws.specs.declared.side.Side.{Side}
use Rattle.dill_ws.specs.declared.side.Side.TheVariants.{Client, Server}
use Rattle.dill_ws.specs.Frames.{peer_of, first_byte, second_byte, length_bits, key_bytes, HasKeyOf, may_follow}
use Rattle.dill_ws.specs.Fronts.{bits_of, key_size, mask_bit, may_start}
use Rattle.dill_ws.proofs.Lengths.{bits_follow}

small_by_test : (op : ℕ) (a b c d e : Bool) → leb 8 op ≡ a → (if a then leb op 10 && b && c else if d then e else leb op 2 && not e) ≡ true → op < 16
small_by_test op true b c d e is h =
    let k : leb op 10 ≡ true = (and_parts (leb op 10) b (and_parts (leb op 10 && b) c h).0).0 in
    let l : op ≤ 10 = leb-true op 10 k in
    omega arith
small_by_test op false b c d e is h = let l : op < 8 = leb-false 8 op is in omega arith

-- an opcode that may come has four bits
pub small_opcode : (joining fin : Bool) (op n : ℕ) → may_follow joining fin op n ≡ true → op < 16
small_opcode joining fin op n h = small_by_test op (leb 8 op) fin (leb n 125) (eqb op 0) joining refl h

-- what byte 1 tells
pub record TellsFirst (a : ℕ) (fin : Bool) (op : ℕ) : Type 0 where
  pub reserved : a / 16 % 8 ≡ 0
  pub final : leb 128 a ≡ fin
  pub code : a % 16 ≡ op

pub first_tells : (fin : Bool) (op : ℕ) → op < 16 → TellsFirst (first_byte fin op) fin op
first_tells true op h = record { reserved = omega arith; final = le-leb 128 (128 + op) (omega arith); code = omega arith }
first_tells false op h = record { reserved = omega arith; final = lt-leb 128 (0 + op) (omega arith); code = omega arith }

first_by_test : (a : ℕ) (b : Bool) → leb 128 a ≡ b → a < 256 → a / 16 % 8 ≡ 0 → a ≡ first_byte b (a % 16)
first_by_test a true e h r = let l : 128 ≤ a = leb-true 128 a e in omega arith
first_by_test a false e h r = let l : a < 128 = leb-false 128 a e in omega arith

pub first_is : (a : ℕ) → a < 256 → a / 16 % 8 ≡ 0 → a ≡ first_byte (leb 128 a) (a % 16)
first_is a h r = first_by_test a (leb 128 a) refl h r

-- what byte 2 tells
pub record TellsSecond (receiver : Side) (b bits : ℕ) : Type 0 where
  pub mask : b / 128 ≡ mask_bit receiver
  pub seven : bits_of b ≡ bits

pub second_tells : (receiver : Side) (key : Option (List ℕ)) (n : ℕ) → HasKeyOf (peer_of receiver) key → length_bits n < 128 → TellsSecond receiver (second_byte key n) (length_bits n)
second_tells Client None n k h = record { mask = omega arith; seven = omega arith }
second_tells Client (Some key) n k h = absurd k
second_tells Server None n k h = absurd k
second_tells Server (Some key) n k h = record { mask = omega arith; seven = omega arith }

pub second_is : (receiver : Side) (key : Option (List ℕ)) (b n : ℕ) → HasKeyOf (peer_of receiver) key → b / 128 ≡ mask_bit receiver → bits_of b ≡ length_bits n → b ≡ second_byte key n
second_is Client None b n k m e = omega arith
second_is Client (Some key) b n k m e = absurd k
second_is Server None b n k m e = absurd k
second_is Server (Some key) b n k m e = omega arith

pub key_length : (receiver : Side) (key : Option (List ℕ)) → HasKeyOf (peer_of receiver) key → length (key_bytes key) ≡ key_size receiver
key_length Client None k = refl
key_length Client (Some key) k = absurd k
key_length Server None k = absurd k
key_length Server (Some key) k = k

-- what is told where bytes 1 and 2 may start a frame
pub record Starts (receiver : Side) (joining : Bool) (a b : ℕ) : Type 0 where
  pub reserved : a / 16 % 8 ≡ 0
  pub allowed : may_follow joining (leb 128 a) (a % 16) (bits_of b) ≡ true
  pub mask : b / 128 ≡ mask_bit receiver

pub starts_by : (receiver : Side) (joining : Bool) (a b : ℕ) → may_start receiver joining a b ≡ true → Starts receiver joining a b
starts_by receiver joining a b h =
    let r = eqb (a / 16 % 8) 0 in
    let f = may_follow joining (leb 128 a) (a % 16) (bits_of b) in
    let m = eqb (b / 128) (mask_bit receiver) in
    let k = and_parts (r && f) m h in
    let l = and_parts r f k.0 in
    record { reserved = eqb-true (a / 16 % 8) 0 l.0; allowed = l.1; mask = eqb-true (b / 128) (mask_bit receiver) k.1 }

pub may_start_by : (receiver : Side) (joining : Bool) (a b : ℕ) → Starts receiver joining a b → may_start receiver joining a b ≡ true
may_start_by receiver joining a b s = and_from _ _ (and_from _ _ (eq-eqb (a / 16 % 8) 0 s.reserved) s.allowed) (eq-eqb (b / 128) (mask_bit receiver) s.mask)

-- the bytes of a head that may come may start a frame
pub written_starts : (receiver : Side) (joining fin : Bool) (op : ℕ) (key : Option (List ℕ)) (n : ℕ) → HasKeyOf (peer_of receiver) key → may_follow joining fin op n ≡ true → length_bits n < 128
    → may_start receiver joining (first_byte fin op) (second_byte key n) ≡ true
written_starts receiver joining fin op key n k f h =
    let t : TellsFirst (first_byte fin op) fin op = first_tells fin op (small_opcode joining fin op n f) in
    let s : TellsSecond receiver (second_byte key n) (length_bits n) = second_tells receiver key n k h in
    may_start_by receiver joining (first_byte fin op) (second_byte key n) (record {
      reserved = t.reserved;
      allowed = rw (t.final, t.code, s.seven) (bits_follow joining fin op n ∙ f);
      mask = s.mask;
    })
