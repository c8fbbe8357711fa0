-- What a WebSocket layer has judged at the front of the unread list stays so when more bytes come.
use Rattle.std.specs.Prelude.{◌≡◌, ◌++◌, ℕ, List}
use Rattle.dill_stack.specs.Layers.{WsLayer}
use Rattle.dill_stack.specs.WsReading.{ws_front, WsFront, Whole, Short, Refused}

-- a whole frame or a refusal
abbrev pub IsJudged : WsFront → Type 0
IsJudged (Whole part used) = Unit {0}
IsJudged Short = ⊥
IsJudged (Refused e) = Unit {0}

-- A judgement stays, whatever follows.
abbrev pub FrontStays : Type 0
FrontStays = (limit : ℕ) (ws : WsLayer) (u v : List ℕ) (f : WsFront) → ws_front limit ws u ≡ f → IsJudged f → ws_front limit ws (u ++ v) ≡ f
