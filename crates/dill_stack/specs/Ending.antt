-- How a WebSocket layer meets the end of what the peer sends (RFC 6455, section 5.5.1).
use Rattle.std.specs.Prelude.{◌≡◌, ◌⊎◌, ◌≤◌, ℕ, List, [], ◌∷◌, ◌++◌, Bool, true, false, length, take, is_some}
use Rattle.std.specs.List.{list_all}
use Rattle.dill_base.specs.declared.errno.Errno.TheVariants.{Epipe}
use Rattle.dill_ws.specs.Closing.{ClosePayload}
use Rattle.dill_ws.specs.Frames.{Part, peer_of}
use Rattle.dill_ws.specs.FrameLaws.{AreBytes}
use Rattle.dill_stack.specs.declared.want.ReadOut.TheVariants.{Fault}
use Rattle.dill_stack.specs.Layers.{Placed, Ws, WsLayer}
use Rattle.dill_stack.specs.Read.{Outcome, outcome, read_ws}
use Rattle.dill_stack.specs.Passing.{AreFrames, AreFollowing, KeepsWithin, is_passing, joining_behind, pings_of, with_parts}

-- a close frame with this payload
abbrev pub close_part : List ℕ → Part
close_part payload = record { fin = true; opcode = 8; payload = payload }

-- The first n bytes are frames that are passed, and a close frame of the peer behind them, whose payload is allowed.
pub record CloseStands (limit : ℕ) (ws : WsLayer) (u : List ℕ) (n : ℕ) : Type 0 where
  pub before : List Part
  pub payload : List ℕ
  pub code : ℕ
  pub there : n ≤ length u
  pub frames : AreFrames (peer_of ws.side) (before ++ close_part payload ∷ []) (take n u)
  pub follows : AreFollowing (is_some ws.joining) before
  pub passing : list_all is_passing before ≡ true
  pub within : KeepsWithin limit ws before
  pub allowed : ClosePayload code payload

-- All bytes are frames that are passed, and behind them no message is being joined.
pub record IsBetween (limit : ℕ) (ws : WsLayer) (u : List ℕ) : Type 0 where
  pub parts : List Part
  pub frames : AreFrames (peer_of ws.side) parts u
  pub follows : AreFollowing (is_some ws.joining) parts
  pub passing : list_all is_passing parts ≡ true
  pub within : KeepsWithin limit ws parts
  pub unjoined : joining_behind (is_some ws.joining) parts ≡ false

-- the layer that has passed these parts, with so many bytes used, answers EPIPE
abbrev pub ended_outcome : List Placed → WsLayer → ℕ → List Part → Outcome
ended_outcome below ws n parts = record { used = n; layers = Ws ws ∷ below; pings = pings_of parts; said = Fault Epipe }

-- EPIPE of a WebSocket layer
pub record EndingLaws : Type 0 where
  -- the close frame is used, and met from now on
  pub closes : (limit : ℕ) (below : List Placed) (ws : WsLayer) (u : List ℕ) (n : ℕ) (ended : Bool) → ws.met ≡ false → (stands : CloseStands limit ws u n)
      → read_ws below ws u ended limit ≡ ended_outcome below (record (with_parts stands.before ws) { met = true }) n stands.before
  -- the list ended between two messages
  pub over : (limit : ℕ) (below : List Placed) (ws : WsLayer) (u : List ℕ) → ws.met ≡ false → (stands : IsBetween limit ws u) → read_ws below ws u true limit ≡ ended_outcome below (with_parts stands.parts ws) (length u) stands.parts
  -- behind the close frame nothing is read
  pub met : (limit : ℕ) (below : List Placed) (ws : WsLayer) (u : List ℕ) (ended : Bool) → ws.met ≡ true → read_ws below ws u ended limit ≡ outcome 0 (Ws ws ∷ below) (Fault Epipe)
  -- where EPIPE is answered, one of these stands
  pub ended : (limit : ℕ) (below : List Placed) (ws : WsLayer) (u : List ℕ) (ended : Bool) → AreBytes u → (read_ws below ws u ended limit).said ≡ Fault Epipe
      → (ws.met ≡ true) ⊎ (CloseStands limit ws u (read_ws below ws u ended limit).used ⊎ ((ended ≡ true) × IsBetween limit ws u))
