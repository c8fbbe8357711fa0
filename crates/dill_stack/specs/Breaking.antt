-- Which bytes show a refusal of a WebSocket layer, and where it awaits more of them (RFC 6455, sections 5.1 to 5.6).
use Rattle.std.specs.Prelude.{◌≡◌, ◌⊎◌, ◌≤◌, ◌<◌, ◌+◌, ℕ, List, [], ◌∷◌, ◌++◌, Bool, true, false, IsUtf8, length, take, drop, is_some}
use Rattle.std.specs.List.{list_all}
use Rattle.std.specs.Option.{unwrap_or}
use Rattle.dill_base.specs.declared.errno.Errno.{Errno}
use Rattle.dill_base.specs.declared.errno.Errno.TheVariants.{Epipe, Eproto, Emsgsize}
use Rattle.dill_base.specs.Reading.{IsShown}
use Rattle.dill_ws.specs.declared.head.Head.{Head}
use Rattle.dill_ws.specs.Closing.{ClosePayload}
use Rattle.dill_ws.specs.Frames.{Part, Frame, peer_of, key_bytes, may_follow}
use Rattle.dill_ws.specs.Fronts.{HeadSpells, HeadShows}
use Rattle.dill_ws.specs.FrameLaws.{AreBytes}
use Rattle.dill_stack.specs.declared.want.ReadOut.TheVariants.{Need, Fault}
use Rattle.dill_stack.specs.Layers.{Placed, Ws, WsLayer}
use Rattle.dill_stack.specs.WsReading.{is_data}
use Rattle.dill_stack.specs.Read.{Outcome, read_ws}
use Rattle.dill_stack.specs.Passing.{AreFrames, AreFollowing, KeepsWithin, is_passing, pings_of, with_parts}
use Rattle.dill_stack.specs.Joining.{HasPassed, JoinedStands}
use Rattle.dill_stack.specs.Ending.{CloseStands, IsBetween}

-- w is the head of a part of a message up to the last byte of its length, before its key, and with what was joined before it that length passes the limit.
pub record LimitShows (limit : ℕ) (ws : WsLayer) (e : Errno) (w : List ℕ) : Type 0 where
  pub errno : e ≡ Emsgsize
  pub head : Head
  pub spelled : HeadSpells ws.side (is_some ws.joining) head (w ++ key_bytes head.key)
  pub carries : is_data head.opcode ≡ true
  pub over : limit < length ws.joined + head.length

-- a close frame whose payload isn't allowed
abbrev pub IsBadClose : Part → Type 0
IsBadClose part = (part.opcode ≡ 8) × ((code : ℕ) → ClosePayload code part.payload → ⊥)

-- the last part of a text within the limit that isn't UTF-8
pub record IsBadText (limit : ℕ) (ws : WsLayer) (part : Part) : Type 0 where
  pub carries : is_data part.opcode ≡ true
  pub last : part.fin ≡ true
  pub text : unwrap_or ws.joining part.opcode ≡ 1
  pub within : length ws.joined + length part.payload ≤ limit
  pub broken : IsUtf8 (ws.joined ++ part.payload) → ⊥

-- w is a whole frame of the peer that may come here, and its payload is refused.
pub record PayloadShows (limit : ℕ) (ws : WsLayer) (e : Errno) (w : List ℕ) : Type 0 where
  pub errno : e ≡ Eproto
  pub part : Part
  pub frame : Frame (peer_of ws.side) part.fin part.opcode part.payload w
  pub follows : may_follow (is_some ws.joining) part.fin part.opcode (length part.payload) ≡ true
  pub bad : IsBadClose part ⊎ IsBadText limit ws part

-- w shows the refusal with its last byte: of a head that may not come, of a length, or of a whole payload.
abbrev pub FrameShows : ℕ → WsLayer → Errno → List ℕ → Type 0
FrameShows limit ws e w = HeadShows ws.side (is_some ws.joining) e w ⊎ (LimitShows limit ws e w ⊎ PayloadShows limit ws e w)

-- The first n bytes are frames that are passed, and a front of what stands behind them shows the refusal.
pub record BreakStands (limit : ℕ) (ws : WsLayer) (u : List ℕ) (n : ℕ) (e : Errno) : Type 0 where
  pub before : List Part
  pub there : n ≤ length u
  pub frames : AreFrames (peer_of ws.side) before (take n u)
  pub follows : AreFollowing (is_some ws.joining) before
  pub passing : list_all is_passing before ≡ true
  pub within : KeepsWithin limit ws before
  pub shown : IsShown (FrameShows limit (with_parts before ws)) (drop n u) e

-- Nothing whole is there: behind the frames that were passed before these bytes no message, no close frame and no refusal stands in them.
pub record NothingJoined (past : List Part) (limit : ℕ) (ws : WsLayer) (u : List ℕ) : Type 0 where
  pub unjoined : (n : ℕ) (m : List ℕ) → JoinedStands ws.side past limit u m n → ⊥
  pub unclosed : (n : ℕ) → CloseStands limit ws u n → ⊥
  pub unshown : (n : ℕ) (e : Errno) → BreakStands limit ws u n e → ⊥

-- what was passed stays used, and its pings are to be answered; the frame that is refused isn't used
abbrev pub broken_outcome : List Placed → WsLayer → ℕ → List Part → Errno → Outcome
broken_outcome below ws n parts e = record { used = n; layers = Ws ws ∷ below; pings = pings_of parts; said = Fault e }

-- refusals and waits of a WebSocket layer of which no close frame was met
pub record BreakingLaws : Type 0 where
  -- No bytes that show a refusal begin others that show one: the least front is refused.
  pub least : (limit : ℕ) (ws : WsLayer) (e f : Errno) (w rest : List ℕ) → AreBytes (w ++ rest) → FrameShows limit ws e w → FrameShows limit ws f (w ++ rest) → rest ≡ []
  -- A refusal is answered exactly where it stands there, or where the list ended inside a message.
  pub breaks : (limit : ℕ) (below : List Placed) (ws : WsLayer) (u : List ℕ) (n : ℕ) (e : Errno) (ended : Bool) → AreBytes u → ws.met ≡ false → (stands : BreakStands limit ws u n e)
      → read_ws below ws u ended limit ≡ broken_outcome below (with_parts stands.before ws) n stands.before e
  pub broken : (limit : ℕ) (past : List Part) (below : List Placed) (ws : WsLayer) (u : List ℕ) (e : Errno) (ended : Bool) → AreBytes u → HasPassed past ws → (e ≡ Epipe → ⊥) → (read_ws below ws u ended limit).said ≡ Fault e
      → BreakStands limit ws u (read_ws below ws u ended limit).used e ⊎ ((e ≡ Eproto) × (ended ≡ true) × NothingJoined past limit ws u × (IsBetween limit ws u → ⊥))
  -- EPROTO is answered where the list ended, nothing whole is there, and it isn't all frames between two messages.
  pub cuts : (limit : ℕ) (past : List Part) (below : List Placed) (ws : WsLayer) (u : List ℕ) → AreBytes u → HasPassed past ws → ws.met ≡ false → NothingJoined past limit ws u → (IsBetween limit ws u → ⊥) → (read_ws below ws u true limit).said ≡ Fault Eproto
  -- More bytes are awaited exactly where nothing whole is there and the list goes on.
  pub waits : (limit : ℕ) (past : List Part) (below : List Placed) (ws : WsLayer) (u : List ℕ) → AreBytes u → HasPassed past ws → ws.met ≡ false → NothingJoined past limit ws u → (read_ws below ws u false limit).said ≡ Need
  pub needs : (limit : ℕ) (past : List Part) (below : List Placed) (ws : WsLayer) (u : List ℕ) (ended : Bool) → AreBytes u → HasPassed past ws → (read_ws below ws u ended limit).said ≡ Need → (ended ≡ false) × (ws.met ≡ false) × NothingJoined past limit ws u
