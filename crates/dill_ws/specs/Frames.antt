-- Frames of the WebSocket protocol (RFC 6455, sections 5.1 to 5.5).
use Rattle.std.specs.Prelude.{◌≡◌, ◌+◌, ◌-◌, ◌%◌, ◌^◌, ◌<◌, ◌++◌, ◌∷◌, [], ◌&&◌, ◌⊎◌, not, if◌then◌else◌, ℕ, Bool, true, false, List, length, map, filter, flat_map, replicate, slice_index, bit_xor, leb, ltb, eqb, Option, Some, None}
use Rattle.std.specs.Int.{w16, w64, to_be_bytes}
use Rattle.dill_ws.specs.declared.side.Side.{Side}
use Rattle.dill_ws.specs.declared.side.Side.TheVariants.{Client, Server}

-- The other end.
abbrev pub peer_of : Side → Side
peer_of Client = Server
peer_of Server = Client

-- FIN and the opcode; the reserved bits are 0.
abbrev pub first_byte : Bool → ℕ → ℕ
first_byte fin opcode = (if fin then 128 else 0) + opcode

-- The seven bits beside MASK: the length itself, or which longer form follows.
abbrev pub length_bits : ℕ → ℕ
length_bits n = if ltb n 126 then n else if ltb n 65536 then 126 else 127

-- MASK and the seven bits.
abbrev pub second_byte : Option (List ℕ) → ℕ → ℕ
second_byte None n = length_bits n
second_byte (Some key) n = 128 + length_bits n

-- The length behind byte 2, in the least form that holds it.
abbrev pub length_tail : ℕ → List ℕ
length_tail n = if ltb n 126 then [] else if ltb n 65536 then to_be_bytes w16 n else to_be_bytes w64 n

-- The masking key as it stands in the head.
abbrev pub key_bytes : Option (List ℕ) → List ℕ
key_bytes None = []
key_bytes (Some key) = key

-- The head of a frame whose payload has n bytes.
abbrev pub head_bytes : Bool → ℕ → Option (List ℕ) → ℕ → List ℕ
head_bytes fin opcode key n = first_byte fin opcode ∷ second_byte key n ∷ (length_tail n ++ key_bytes key)

-- Each byte, the first at this place, with the key's byte at its place modulo 4.
abbrev pub masked_from : ℕ → List ℕ → List ℕ → List ℕ
masked_from at key [] = []
masked_from at key (b ∷ bs) = bit_xor b (slice_index key (at % 4)) ∷ masked_from (at + 1) key bs

-- A payload as it stands in its frame.
abbrev pub masked : Option (List ℕ) → List ℕ → List ℕ
masked None payload = payload
masked (Some key) payload = masked_from 0 key payload

-- A frame: its head, then its payload.
abbrev pub frame_bytes : Bool → ℕ → Option (List ℕ) → List ℕ → List ℕ
frame_bytes fin opcode key payload = head_bytes fin opcode key (length payload) ++ masked key payload

-- A client masks by a key of four bytes, a server doesn't mask.
abbrev pub HasKeyOf : Side → Option (List ℕ) → Type 0
HasKeyOf Client (Some key) = length key ≡ 4
HasKeyOf Client None = ⊥
HasKeyOf Server (Some key) = ⊥
HasKeyOf Server None = Unit {0}

-- Close, ping and pong are whole and have at most 125 bytes. A continuation (0) comes where a message is being joined,
-- a text (1) or binary (2) frame where none is.
abbrev pub may_follow : Bool → Bool → ℕ → ℕ → Bool
may_follow joining fin opcode n =
    if leb 8 opcode then leb opcode 10 && fin && leb n 125
    else if eqb opcode 0 then joining
    else leb opcode 2 && not joining

-- w is the sender's frame of these fields, which may come where a message is being joined or where none is.
pub record Frame (sender : Side) (fin : Bool) (opcode : ℕ) (payload w : List ℕ) : Type 0 where
  pub key : Option (List ℕ)
  pub keyed : HasKeyOf sender key
  pub joining : Bool
  pub allowed : may_follow joining fin opcode (length payload) ≡ true
  pub fits : length payload < 2 ^ 63
  pub whole : w ≡ frame_bytes fin opcode key payload

-- What a frame carries.
pub record Part : Type 0 where
  pub fin : Bool
  pub opcode : ℕ
  pub payload : List ℕ

-- The frames that aren't control frames.
abbrev pub data_parts : List Part → List Part
data_parts parts = filter (λ p. leb p.opcode 2) parts

-- The frames, but for control frames, are one message of this opcode: continuations behind the first, FIN on the last alone.
pub record Joined (parts : List Part) (opcode : ℕ) (m : List ℕ) : Type 0 where
  pub kind : (opcode ≡ 1) ⊎ (opcode ≡ 2)
  pub opcodes : map (λ p. p.opcode) (data_parts parts) ≡ opcode ∷ replicate (length (data_parts parts) - 1) 0
  pub fins : map (λ p. p.fin) (data_parts parts) ≡ replicate (length (data_parts parts) - 1) false ++ true ∷ []
  pub together : flat_map (λ p. p.payload) (data_parts parts) ≡ m
