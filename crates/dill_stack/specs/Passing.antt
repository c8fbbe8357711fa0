-- The frames that a WebSocket layer passes before it gives a message, as a relation (RFC 6455, sections 5.4 and 5.5).
use Rattle.std.specs.Prelude.{◌≡◌, ◌⊎◌, ◌≤◌, ◌+◌, ℕ, List, [], ◌∷◌, ◌++◌, Bool, true, not, ◌==◌, ◌&&◌, ◌||◌, length, take, drop, map, filter, flat_map, is_some, if◌then◌else◌, Option, Some, None}
use Rattle.std.specs.List.{list_all}
use Rattle.std.specs.Option.{unwrap_or}
use Rattle.dill_ws.specs.declared.side.Side.{Side}
use Rattle.dill_ws.specs.Frames.{Part, Frame, peer_of, data_parts, may_follow}
use Rattle.dill_ws.specs.FrameLaws.{AreBytes}
use Rattle.dill_stack.specs.Layers.{WsLayer}
use Rattle.dill_stack.specs.WsReading.{Passed, passed, pass_by_front, ws_front, is_data}

-- w is a frame of this side for each part, one behind the other
abbrev pub AreFrames : Side → List Part → List ℕ → Type 0
AreFrames peer [] w = w ≡ []
AreFrames peer (part ∷ parts) w = (v : List ℕ) × (rest : List ℕ) × Frame peer part.fin part.opcode part.payload v × (w ≡ v ++ rest) × AreFrames peer parts rest

-- a ping, a pong, or a part of a message that doesn't end it
abbrev pub is_passing : Part → Bool
is_passing part = part.opcode == 9 || part.opcode == 10 || is_data part.opcode && not part.fin

-- a message is being joined behind this part, where one was or wasn't before it
abbrev pub is_joining : Bool → Part → Bool
is_joining joining part = if is_data part.opcode then not part.fin else joining

-- Each part may come where it stands: a continuation where a message is being joined, text or binary where none is.
abbrev pub AreFollowing : Bool → List Part → Type 0
AreFollowing joining [] = Unit {0}
AreFollowing joining (part ∷ parts) = (may_follow joining part.fin part.opcode (length part.payload) ≡ true) × AreFollowing (is_joining joining part) parts

-- a message is being joined behind these parts
abbrev pub joining_behind : Bool → List Part → Bool
joining_behind joining [] = joining
joining_behind joining (part ∷ parts) = joining_behind (is_joining joining part) parts

-- the payloads of the pings, in their order
abbrev pub pings_of : List Part → List (List ℕ)
pings_of parts = map (λ part. part.payload) (filter (λ part. part.opcode == 9) parts)

-- the opcode of the message that has begun, before these parts or with the first of them
abbrev pub begun : Option ℕ → List Part → Option ℕ
begun joining [] = joining
begun joining (part ∷ parts) = Some (unwrap_or joining part.opcode)

-- the layer to which the parts of messages among these were joined
abbrev pub with_parts : List Part → WsLayer → WsLayer
with_parts parts ws = record ws { joining = begun ws.joining (data_parts parts); joined = ws.joined ++ flat_map (λ part. part.payload) (data_parts parts) }

-- the bytes of the parts of messages among these
abbrev pub joined_size : List Part → ℕ
joined_size parts = length (flat_map (λ part. part.payload) (data_parts parts))

-- No part of a message is among these, or they keep within the limit together with what was joined before.
abbrev pub KeepsWithin : ℕ → WsLayer → List Part → Type 0
KeepsWithin limit ws parts = (data_parts parts ≡ []) ⊎ (length ws.joined + joined_size parts ≤ limit)

-- What is passed is whole frames of the peer that don't end a message; what stands behind them is passed no more.
pub record IsPassed (limit : ℕ) (ws : WsLayer) (u : List ℕ) (p : Passed) : Type 0 where
  pub parts : List Part
  pub there : p.used ≤ length u
  pub frames : AreFrames (peer_of ws.side) parts (take p.used u)
  pub follows : AreFollowing (is_some ws.joining) parts
  pub joining : is_some p.ws.joining ≡ joining_behind (is_some ws.joining) parts
  pub passing : list_all is_passing parts ≡ true
  pub within : KeepsWithin limit ws parts
  pub pings : p.pings ≡ pings_of parts
  pub layer : p.ws ≡ with_parts parts ws
  pub last : pass_by_front p.ws (ws_front limit p.ws (drop p.used u)) ≡ None

-- the frames that are passed, at every list of bytes
abbrev pub PassesFrames : Type 0
PassesFrames = (limit : ℕ) (ws : WsLayer) (u : List ℕ) → AreBytes u → IsPassed limit ws u (passed limit ws u)
