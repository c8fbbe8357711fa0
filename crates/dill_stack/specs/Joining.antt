-- A message of a WebSocket layer as the frames that it was sent in (RFC 6455, section 5.4).
use Rattle.std.specs.Prelude.{◌≡◌, ◌≤◌, ℕ, List, [], ◌∷◌, ◌++◌, Bool, true, false, not, ◌==◌, IsUtf8, length, take, flat_map, None}
use Rattle.std.specs.List.{list_all}
use Rattle.dill_calls.specs.declared.answer.Answer.TheVariants.{Bytes}
use Rattle.dill_ws.specs.declared.side.Side.{Side}
use Rattle.dill_ws.specs.Frames.{Part, Joined, peer_of, data_parts}
use Rattle.dill_ws.specs.FrameLaws.{AreBytes}
use Rattle.dill_stack.specs.declared.want.ReadOut.TheVariants.{Given, Need}
use Rattle.dill_stack.specs.Layers.{Placed, Ws, WsLayer}
use Rattle.dill_stack.specs.WsReading.{is_data}
use Rattle.dill_stack.specs.Read.{Outcome, read_ws}
use Rattle.dill_stack.specs.Passing.{AreFrames, AreFollowing, is_passing, begun, pings_of}

-- no close frame
abbrev pub is_no_close : Part → Bool
is_no_close part = not (part.opcode == 8)

-- The frames that a layer has passed since its last message: each came where it may, none ended a message, and their parts of a message are joined.
pub record HasPassed (past : List Part) (ws : WsLayer) : Type 0 where
  pub follows : AreFollowing false past
  pub passing : list_all is_passing past ≡ true
  pub joining : ws.joining ≡ begun None (data_parts past)
  pub joined : ws.joined ≡ flat_map (λ part. part.payload) (data_parts past)

-- Behind these frames the first n bytes are frames of the peer by which one message within the limit is whole. The last of them is the message's last part, and among those before it may be pings and pongs; a text is UTF-8.
pub record JoinedStands (side : Side) (past : List Part) (limit : ℕ) (u m : List ℕ) (n : ℕ) : Type 0 where
  pub before : List Part
  pub last : Part
  pub opcode : ℕ
  pub there : n ≤ length u
  pub frames : AreFrames (peer_of side) (before ++ last ∷ []) (take n u)
  pub joined : Joined (past ++ (before ++ last ∷ [])) opcode m
  pub unclosed : list_all is_no_close (before ++ last ∷ []) ≡ true
  pub ends : is_data last.opcode ≡ true
  pub short : length m ≤ limit
  pub text : opcode ≡ 1 → IsUtf8 m

-- The first bytes are frames of the peer that were passed, and the layer has them behind it now. The pings among them are to be answered.
pub record PassedOn (past : List Part) (below : List Placed) (ws : WsLayer) (u : List ℕ) (o : Outcome) : Type 0 where
  pub parts : List Part
  pub after : WsLayer
  pub there : o.used ≤ length u
  pub frames : AreFrames (peer_of ws.side) parts (take o.used u)
  pub layers : o.layers ≡ Ws after ∷ below
  pub passed : HasPassed (past ++ parts) after
  pub pings : o.pings ≡ pings_of parts

-- The message is given, its bytes are used, the pings among them are to be answered, and the layer stands before a message again.
abbrev pub joined_outcome : List Placed → WsLayer → ℕ → List Part → List ℕ → Outcome
joined_outcome below ws n before m = record { used = n; layers = Ws (record ws { joining = None; joined = [] }) ∷ below; pings = pings_of before; said = Given (Bytes m) }

-- a layer that has passed some frames, or none
pub record JoiningLaws : Type 0 where
  -- what it gives stands at the front
  pub given : (limit : ℕ) (past : List Part) (below : List Placed) (ws : WsLayer) (u m : List ℕ) (ended : Bool) → AreBytes u → HasPassed past ws → (read_ws below ws u ended limit).said ≡ Given (Bytes m)
      → JoinedStands ws.side past limit u m (read_ws below ws u ended limit).used
  -- what stands at the front is given, unless the peer's close frame was met
  pub gives : (limit : ℕ) (past : List Part) (below : List Placed) (ws : WsLayer) (u m : List ℕ) (n : ℕ) (ended : Bool) → HasPassed past ws → ws.met ≡ false → (stands : JoinedStands ws.side past limit u m n)
      → read_ws below ws u ended limit ≡ joined_outcome below ws n stands.before m
  -- where more bytes are awaited, frames were passed
  pub needs : (limit : ℕ) (past : List Part) (below : List Placed) (ws : WsLayer) (u : List ℕ) (ended : Bool) → AreBytes u → HasPassed past ws → (read_ws below ws u ended limit).said ≡ Need → PassedOn past below ws u (read_ws below ws u ended limit)
