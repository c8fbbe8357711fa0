-- What is read of the head at the front of the bytes that have come (RFC 6455, section 5.2).
use Rattle.std.specs.Prelude.{◌≡◌, ◌+◌, ◌/◌, ◌%◌, ◌^◌, ◌<◌, ◌≤◌, ◌++◌, ◌&&◌, ◌⊎◌, if◌then◌else◌, ℕ, Bool, true, List, length, take, drop, slice_index, leb, ltb, eqb, Option, Some, None}
use Rattle.std.specs.Int.{w16, w64, from_be_bytes}
use Rattle.dill_base.specs.declared.errno.Errno.{Errno}
use Rattle.dill_base.specs.declared.errno.Errno.TheVariants.{Eproto}
use Rattle.dill_ws.specs.declared.side.Side.{Side}
use Rattle.dill_ws.specs.declared.side.Side.TheVariants.{Client, Server}
use Rattle.dill_ws.specs.declared.head.Head.{Head}
use Rattle.dill_ws.specs.declared.head.HeadFront.{HeadFront}
use Rattle.dill_ws.specs.declared.head.HeadFront.TheVariants.{Whole, Need, Fault}
use Rattle.dill_ws.specs.Frames.{peer_of, length_bits, head_bytes, HasKeyOf, may_follow}

-- w is a head that may come to the receiver now.
pub record HeadSpells (receiver : Side) (joining : Bool) (h : Head) (w : List ℕ) : Type 0 where
  pub keyed : HasKeyOf (peer_of receiver) h.key
  pub allowed : may_follow joining h.fin h.opcode h.length ≡ true
  pub fits : h.length < 2 ^ 63
  pub whole : w ≡ head_bytes h.fin h.opcode h.key h.length
  pub start : h.start ≡ length w

-- The seven bits beside MASK in byte 2.
abbrev pub bits_of : ℕ → ℕ
bits_of b = b % 128

-- How many bytes the length has behind byte 2.
abbrev pub length_size : ℕ → ℕ
length_size bits = if ltb bits 126 then 0 else if eqb bits 126 then 2 else 8

-- The places at which a head is judged: bytes 1 and 2 together, and the last byte of the length.
abbrev pub IsJudged : List ℕ → Type 0
IsJudged w = (length w ≡ 2) ⊎ (length w ≡ 2 + length_size (bits_of (slice_index w 1)))

-- No head that may come begins with w.
abbrev pub NoneBegins : Side → Bool → List ℕ → Type 0
NoneBegins receiver joining w = (h : Head) (rest : List ℕ) → HeadSpells receiver joining h (w ++ rest) → ⊥

-- w is the least front that is judged and that no head begins with.
pub record HeadShows (receiver : Side) (joining : Bool) (e : Errno) (w : List ℕ) : Type 0 where
  pub errno : e ≡ Eproto
  pub judged : IsJudged w
  pub none : NoneBegins receiver joining w
  pub least : (n : ℕ) → n < length w → IsJudged (take n w) → NoneBegins receiver joining (take n w) → ⊥

-- A front of the bytes is this head.
pub record IsHead (receiver : Side) (joining : Bool) (bytes : List ℕ) (h : Head) : Type 0 where
  pub there : h.start ≤ length bytes
  pub spelled : HeadSpells receiver joining h (take h.start bytes)

-- No front of the bytes is a head, and none shows a refusal.
pub record IsOpenHead (receiver : Side) (joining : Bool) (bytes : List ℕ) : Type 0 where
  pub unspelled : (n : ℕ) → n ≤ length bytes → (h : Head) → HeadSpells receiver joining h (take n bytes) → ⊥
  pub unshown : (n : ℕ) → n ≤ length bytes → (e : Errno) → HeadShows receiver joining e (take n bytes) → ⊥

-- A front of the bytes is the least that shows this refusal.
pub record IsRefusedHead (receiver : Side) (joining : Bool) (bytes : List ℕ) (e : Errno) : Type 0 where
  pub count : ℕ
  pub there : count ≤ length bytes
  pub shown : HeadShows receiver joining e (take count bytes)

-- What is answered is what the heads say.
abbrev pub IsHeadFront : Side → Bool → List ℕ → HeadFront → Type 0
IsHeadFront receiver joining bytes (Whole h) = IsHead receiver joining bytes h
IsHeadFront receiver joining bytes Need = IsOpenHead receiver joining bytes
IsHeadFront receiver joining bytes (Fault e) = IsRefusedHead receiver joining bytes e

-- How many bytes the key takes in a frame that comes to this side, and MASK there.
abbrev pub key_size : Side → ℕ
key_size Client = 0
key_size Server = 4

abbrev pub mask_bit : Side → ℕ
mask_bit Client = 0
mask_bit Server = 1

-- Bytes 1 and 2 are those of a head that may come.
abbrev pub may_start : Side → Bool → ℕ → ℕ → Bool
may_start receiver joining a b = eqb (a / 16 % 8) 0 && may_follow joining (leb 128 a) (a % 16) (bits_of b) && eqb (b / 128) (mask_bit receiver)

-- The length that the seven bits and the bytes behind byte 2 tell.
abbrev pub told : ℕ → List ℕ → ℕ
told bits behind = if ltb bits 126 then bits else if eqb bits 126 then from_be_bytes w16 behind else from_be_bytes w64 behind

-- This is the form in which the length is written, with its top bit clear.
abbrev pub is_least : ℕ → ℕ → Bool
is_least bits n = eqb (length_bits n) bits && ltb n (2 ^ 63)

-- The key that a frame to this side has at a place.
abbrev pub key_at : Side → List ℕ → Option (List ℕ)
key_at Client behind = None
key_at Server behind = Some (take 4 behind)

-- The head by its fields at their places.
abbrev pub head_at : Side → List ℕ → Head
head_at receiver u =
    let bits = bits_of (slice_index u 1) in
    record {
      fin = leb 128 (slice_index u 0);
      opcode = slice_index u 0 % 16;
      key = key_at receiver (drop (2 + length_size bits) u);
      start = 2 + length_size bits + key_size receiver;
      length = told bits (drop 2 u);
    }

-- What stands at the front, field by field.
unfoldable pub head_front : Side → Bool → List ℕ → HeadFront
head_front receiver joining u =
    let bits = bits_of (slice_index u 1) in
    if ltb (length u) 2 then Need
    else if may_start receiver joining (slice_index u 0) (slice_index u 1) then (
    if ltb (length u) (2 + length_size bits) then Need
    else if is_least bits (told bits (drop 2 u)) then (
    if ltb (length u) (2 + length_size bits + key_size receiver) then Need else Whole (head_at receiver u)
    ) else Fault Eproto
    ) else Fault Eproto
