-- What a detach of an end by a terminal message drops over a WebSocket layer, as a relation: messages one behind the other, and then what isn't one.
use Rattle.std.specs.Prelude.{◌≡◌, ℕ, List, [], ◌∷◌, Bool, true, false, length, drop}
use Rattle.dill_base.specs.declared.errno.Errno.{Errno}
use Rattle.dill_base.specs.declared.errno.Errno.TheVariants.{Epipe, Eproto}
use Rattle.dill_calls.specs.declared.answer.Answer.TheVariants.{Number}
use Rattle.dill_ws.specs.Frames.{Part}
use Rattle.dill_ws.specs.FrameLaws.{AreBytes}
use Rattle.dill_stack.specs.declared.want.ReadOut.TheVariants.{Given, Need, Fault}
use Rattle.dill_stack.specs.Layers.{Term, TermLayer, Ws, WsLayer}
use Rattle.dill_stack.specs.Read.{Outcome, outcome}
use Rattle.dill_stack.specs.Passing.{pings_of, with_parts}
use Rattle.dill_stack.specs.Joining.{HasPassed, JoinedStands, PassedOn, joined_outcome}
use Rattle.dill_stack.specs.Ending.{CloseStands, IsBetween, ended_outcome}
use Rattle.dill_stack.specs.Breaking.{BreakStands, NothingJoined, broken_outcome}
use Rattle.dill_stack.specs.Seeing.{emptied}
use Rattle.dill_stack.specs.Dropping.{drop_limit, further, dropped}

-- the same, below an end that wasn't met
abbrev pub under : TermLayer → Outcome → Outcome
under term o = record o { layers = Term term ∷ o.layers }

-- the terminal message is met, and the WebSocket layer is left, before a message
abbrev pub terminal_outcome : WsLayer → ℕ → List Part → Outcome
terminal_outcome ws n parts = record { used = n; layers = Ws (emptied ws) ∷ []; pings = pings_of parts; said = Given (Number 0) }

-- No other message stands at the front, but the terminal message does, or the close frame, or the list ended between two messages, or a refusal stands there, or nothing whole.
pub data TermFramesLast (ended : Bool) (past : List Part) (term : TermLayer) (ws : WsLayer) (u : List ℕ) (o : Outcome) : Type 0 where
  MeetsTerminal : (n : ℕ) → (s : JoinedStands ws.side past drop_limit u term.terminal n) → o ≡ terminal_outcome ws n s.before → TermFramesLast ended past term ws u o
  ClosedBelow : (n : ℕ) → (s : CloseStands drop_limit ws u n) → o ≡ under term (ended_outcome [] (record (with_parts s.before ws) { met = true }) n s.before) → TermFramesLast ended past term ws u o
  OverBelow : ended ≡ true → (s : IsBetween drop_limit ws u) → o ≡ under term (ended_outcome [] (with_parts s.parts ws) (length u) s.parts) → TermFramesLast ended past term ws u o
  BreaksBelow : (n : ℕ) (e : Errno) → (s : BreakStands drop_limit ws u n e) → o ≡ under term (broken_outcome [] (with_parts s.before ws) n s.before e) → TermFramesLast ended past term ws u o
  CutsBelow : ended ≡ true → NothingJoined past drop_limit ws u → (IsBetween drop_limit ws u → ⊥) → o.said ≡ Fault Eproto → TermFramesLast ended past term ws u o
  WaitsBelow : ended ≡ false → NothingJoined past drop_limit ws u → o.said ≡ Need → (p : Outcome) → PassedOn past [] ws u p → o ≡ under term p → TermFramesLast ended past term ws u o

-- Messages within the limit one behind the other, none of which is the terminal message, and then what isn't one.
pub data DropsTermFrames (ended : Bool) (term : TermLayer) : List Part → WsLayer → List ℕ → Outcome → Type 0 where
  NextUnder : (past : List Part) (ws : WsLayer) (u m : List ℕ) (n : ℕ) (o : Outcome) → (m ≡ term.terminal → ⊥) → (s : JoinedStands ws.side past drop_limit u m n) → DropsTermFrames ended term [] (emptied ws) (drop n u) o
      → DropsTermFrames ended term past ws u (further (under term (joined_outcome [] ws n s.before m)) o)
  LastUnder : (past : List Part) (ws : WsLayer) (u : List ℕ) (o : Outcome) → TermFramesLast ended past term ws u o → DropsTermFrames ended term past ws u o

-- detaches of one end over a WebSocket layer, where that end wasn't met
pub record TermFrameDropLaws : Type 0 where
  -- what is dropped are messages, up to what isn't one
  pub drops : (past : List Part) (term : TermLayer) (ws : WsLayer) (u : List ℕ) (ended : Bool) → AreBytes u → HasPassed past ws → term.met ≡ false → ws.met ≡ false → DropsTermFrames ended term past ws u (dropped (Term term ∷ Ws ws ∷ []) u ended)
  -- the terminal message behind other messages alone is met, and just these bytes are used
  pub meets : (past : List Part) (term : TermLayer) (ws : WsLayer) (u : List ℕ) (ended : Bool) (o : Outcome) → HasPassed past ws → term.met ≡ false → ws.met ≡ false → DropsTermFrames ended term past ws u o → o.said ≡ Given (Number 0)
      → dropped (Term term ∷ Ws ws ∷ []) u ended ≡ o
  -- where the close frame was met before, nothing is dropped
  pub lost : (term : TermLayer) (ws : WsLayer) (u : List ℕ) (ended : Bool) → term.met ≡ false → ws.met ≡ true → dropped (Term term ∷ Ws ws ∷ []) u ended ≡ outcome 0 (Term term ∷ Ws ws ∷ []) (Fault Epipe)
