-- Frames worked by hand, those of RFC 6455, section 5.7, among them; the definitions compute them.
use Rattle.std.specs.Prelude.{◌≡◌, ◌∷◌, [], codes, ℕ, Bool, true, false, List, Option, Some, None}
use Rattle.dill_base.specs.declared.errno.Errno.TheVariants.{Eproto}
use Rattle.dill_ws.specs.declared.side.Side.TheVariants.{Client, Server}
use Rattle.dill_ws.specs.declared.head.Head.{Head}
use Rattle.dill_ws.specs.declared.head.HeadFront.TheVariants.{Whole, Need, Fault}
use Rattle.dill_ws.specs.Frames.{head_bytes, frame_bytes, masked, Part, Joined}
use Rattle.dill_ws.specs.Fronts.{head_front}
use Rattle.dill_ws.specs.Closing.{close_of}
use Rattle.dill_ws.specs.Handshakes.{accept_text}

abbrev pub head_of : Bool → ℕ → Option (List ℕ) → ℕ → ℕ → Head
head_of fin opcode key start length = record { fin = fin; opcode = opcode; key = key; start = start; length = length }

abbrev pub part_of : Bool → ℕ → List ℕ → Part
part_of fin opcode payload = record { fin = fin; opcode = opcode; payload = payload }

pub record FrameRows : Type 0 where
  -- a text in one frame, without and with a mask
  pub text : frame_bytes true 1 None (codes "Hello") ≡ 129 ∷ 5 ∷ codes "Hello"
  pub masked_text : frame_bytes true 1 (Some (55 ∷ 250 ∷ 33 ∷ 61 ∷ [])) (codes "Hello") ≡ (129 ∷ 133 ∷ 55 ∷ 250 ∷ 33 ∷ 61 ∷ 127 ∷ 159 ∷ 77 ∷ 81 ∷ 88 ∷ [])
  pub read_text : head_front Client false (129 ∷ 5 ∷ codes "Hello") ≡ Whole (head_of true 1 None 2 5)
  pub read_masked : head_front Server false (129 ∷ 133 ∷ 55 ∷ 250 ∷ 33 ∷ 61 ∷ 127 ∷ 159 ∷ 77 ∷ 81 ∷ 88 ∷ []) ≡ Whole (head_of true 1 (Some (55 ∷ 250 ∷ 33 ∷ 61 ∷ [])) 6 5)
  pub unmasked_text : masked (Some (55 ∷ 250 ∷ 33 ∷ 61 ∷ [])) (127 ∷ 159 ∷ 77 ∷ 81 ∷ 88 ∷ []) ≡ codes "Hello"
  -- a text in two frames, with a ping between them
  pub first_part : head_front Server false (1 ∷ 131 ∷ 0 ∷ 0 ∷ 0 ∷ 0 ∷ 72 ∷ 101 ∷ 108 ∷ []) ≡ Whole (head_of false 1 (Some (0 ∷ 0 ∷ 0 ∷ 0 ∷ [])) 6 3)
  pub ping_between : head_front Server true (137 ∷ 128 ∷ 0 ∷ 0 ∷ 0 ∷ 0 ∷ []) ≡ Whole (head_of true 9 (Some (0 ∷ 0 ∷ 0 ∷ 0 ∷ [])) 6 0)
  pub last_part : head_front Server true (128 ∷ 130 ∷ 0 ∷ 0 ∷ 0 ∷ 0 ∷ 108 ∷ 111 ∷ []) ≡ Whole (head_of true 0 (Some (0 ∷ 0 ∷ 0 ∷ 0 ∷ [])) 6 2)
  pub whole : Joined (part_of false 1 (codes "Hel") ∷ part_of true 9 [] ∷ part_of true 0 (codes "lo") ∷ []) 1 (codes "Hello")
  pub first_to_client : head_front Client false (1 ∷ 3 ∷ 72 ∷ 101 ∷ 108 ∷ []) ≡ Whole (head_of false 1 None 2 3)
  pub last_to_client : head_front Client true (128 ∷ 2 ∷ 108 ∷ 111 ∷ []) ≡ Whole (head_of true 0 None 2 2)
  -- a ping and its pong, and longer binary messages
  pub ping : frame_bytes true 9 None (codes "Hello") ≡ 137 ∷ 5 ∷ codes "Hello"
  pub pong : frame_bytes true 10 None [] ≡ (138 ∷ 0 ∷ [])
  pub middle_length : head_bytes true 2 None 256 ≡ (130 ∷ 126 ∷ 1 ∷ 0 ∷ [])
  pub long_length : head_bytes true 2 None 65536 ≡ (130 ∷ 127 ∷ 0 ∷ 0 ∷ 0 ∷ 0 ∷ 0 ∷ 1 ∷ 0 ∷ 0 ∷ [])
  pub read_middle : head_front Client false (130 ∷ 126 ∷ 1 ∷ 0 ∷ []) ≡ Whole (head_of true 2 None 4 256)
  pub read_long : head_front Client false (130 ∷ 127 ∷ 0 ∷ 0 ∷ 0 ∷ 0 ∷ 0 ∷ 1 ∷ 0 ∷ 0 ∷ []) ≡ Whole (head_of true 2 None 10 65536)
  -- what is refused, and where
  pub before_reserved_bit : head_front Server false (193 ∷ []) ≡ Need
  pub reserved_bit : head_front Server false (193 ∷ 128 ∷ []) ≡ Fault Eproto
  pub before_long_ping : head_front Server false (137 ∷ []) ≡ Need
  pub long_ping : head_front Server false (137 ∷ 254 ∷ []) ≡ Fault Eproto
  pub before_nothing_to_continue : head_front Server false (128 ∷ []) ≡ Need
  pub nothing_to_continue : head_front Server false (128 ∷ 128 ∷ []) ≡ Fault Eproto
  pub before_no_mask : head_front Server false (129 ∷ []) ≡ Need
  pub no_mask : head_front Server false (129 ∷ 5 ∷ []) ≡ Fault Eproto
  pub before_needless_length : head_front Server false (130 ∷ 254 ∷ 0 ∷ []) ≡ Need
  pub needless_length : head_front Server false (130 ∷ 254 ∷ 0 ∷ 125 ∷ []) ≡ Fault Eproto
  pub before_short_text_in_longer_form : head_front Server false (129 ∷ 254 ∷ 0 ∷ []) ≡ Need
  pub short_text_in_longer_form : head_front Server false (129 ∷ 254 ∷ 0 ∷ 5 ∷ []) ≡ Fault Eproto
  pub before_top_bit : head_front Server false (130 ∷ 255 ∷ 128 ∷ 0 ∷ 0 ∷ 0 ∷ 0 ∷ 0 ∷ 0 ∷ []) ≡ Need
  pub top_bit : head_front Server false (130 ∷ 255 ∷ 128 ∷ 0 ∷ 0 ∷ 0 ∷ 0 ∷ 0 ∷ 0 ∷ 0 ∷ []) ≡ Fault Eproto
  -- close payloads
  pub no_code : close_of [] ≡ Some 0
  pub normal : close_of (3 ∷ 232 ∷ []) ≡ Some 1000
  pub reserved_code : close_of (3 ∷ 237 ∷ []) ≡ None
  pub half_a_code : close_of (3 ∷ []) ≡ None
  pub reason_no_text : close_of (3 ∷ 232 ∷ 255 ∷ []) ≡ None

-- The key and the value of RFC 6455, section 1.3.
abbrev pub AcceptRow : Type 0
AcceptRow = accept_text (codes "dGhlIHNhbXBsZSBub25jZQ==") ≡ codes "s3pPLMBiTxaQ9kYGzzhZRbK+xOo="
