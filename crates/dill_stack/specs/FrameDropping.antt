-- What a detach drops where a WebSocket layer is on top, as a relation: messages one behind the other, and then what isn't one (RFC 6455, sections 5.4 and 5.5.1).
use Rattle.std.specs.Prelude.{◌≡◌, ℕ, List, [], ◌∷◌, Bool, true, false, length, drop}
use Rattle.dill_base.specs.declared.errno.Errno.{Errno}
use Rattle.dill_base.specs.declared.errno.Errno.TheVariants.{Eproto}
use Rattle.dill_calls.specs.declared.answer.Answer.TheVariants.{Number}
use Rattle.dill_ws.specs.Frames.{Part}
use Rattle.dill_ws.specs.FrameLaws.{AreBytes}
use Rattle.dill_stack.specs.declared.want.ReadOut.TheVariants.{Given, Need, Fault}
use Rattle.dill_stack.specs.Layers.{Placed, Ws, WsLayer}
use Rattle.dill_stack.specs.Read.{Outcome, outcome}
use Rattle.dill_stack.specs.Passing.{pings_of, with_parts}
use Rattle.dill_stack.specs.Joining.{HasPassed, JoinedStands, PassedOn, joined_outcome}
use Rattle.dill_stack.specs.Ending.{CloseStands, IsBetween, ended_outcome}
use Rattle.dill_stack.specs.Breaking.{BreakStands, NothingJoined, broken_outcome}
use Rattle.dill_stack.specs.Seeing.{emptied}
use Rattle.dill_stack.specs.Dropping.{drop_limit, further, dropped}

-- the close frame is met, and the layers below are left
abbrev pub close_outcome : ℕ → List Part → Outcome
close_outcome n parts = record { used = n; layers = []; pings = pings_of parts; said = Given (Number 0) }

-- No message stands at the front, but the close frame does, or the list ended between two messages, or a refusal stands there, or nothing whole.
pub data FramesLast (ended : Bool) (past : List Part) (ws : WsLayer) (u : List ℕ) (o : Outcome) : Type 0 where
  MeetsClose : (n : ℕ) → (s : CloseStands drop_limit ws u n) → o ≡ close_outcome n s.before → FramesLast ended past ws u o
  OverFrames : ended ≡ true → (s : IsBetween drop_limit ws u) → o ≡ ended_outcome [] (with_parts s.parts ws) (length u) s.parts → FramesLast ended past ws u o
  BreaksFrame : (n : ℕ) (e : Errno) → (s : BreakStands drop_limit ws u n e) → o ≡ broken_outcome [] (with_parts s.before ws) n s.before e → FramesLast ended past ws u o
  CutsFrames : ended ≡ true → NothingJoined past drop_limit ws u → (IsBetween drop_limit ws u → ⊥) → o.said ≡ Fault Eproto → FramesLast ended past ws u o
  WaitsFrames : ended ≡ false → NothingJoined past drop_limit ws u → o.said ≡ Need → PassedOn past [] ws u o → FramesLast ended past ws u o

-- Messages within the limit one behind the other, the first behind the frames that were passed before, and then what isn't one.
pub data DropsFrames (ended : Bool) : List Part → WsLayer → List ℕ → Outcome → Type 0 where
  NextMessage : (past : List Part) (ws : WsLayer) (u m : List ℕ) (n : ℕ) (o : Outcome) → (s : JoinedStands ws.side past drop_limit u m n) → DropsFrames ended [] (emptied ws) (drop n u) o → DropsFrames ended past ws u (further (joined_outcome [] ws n s.before m) o)
  LastFrames : (past : List Part) (ws : WsLayer) (u : List ℕ) (o : Outcome) → FramesLast ended past ws u o → DropsFrames ended past ws u o

-- detaches of a WebSocket layer
pub record FrameDropLaws : Type 0 where
  -- what is dropped are messages, up to what isn't one
  pub drops : (past : List Part) (ws : WsLayer) (u : List ℕ) (ended : Bool) → AreBytes u → HasPassed past ws → ws.met ≡ false → DropsFrames ended past ws u (dropped (Ws ws ∷ []) u ended)
  -- a close frame behind messages alone is met, and just these bytes are used
  pub meets : (past : List Part) (ws : WsLayer) (u : List ℕ) (ended : Bool) (o : Outcome) → HasPassed past ws → ws.met ≡ false → DropsFrames ended past ws u o → o.said ≡ Given (Number 0) → dropped (Ws ws ∷ []) u ended ≡ o
  -- where it was met before, nothing is dropped
  pub met : (below : List Placed) (ws : WsLayer) (u : List ℕ) (ended : Bool) → ws.met ≡ true → dropped (Ws ws ∷ below) u ended ≡ outcome 0 below (Given (Number 0))
