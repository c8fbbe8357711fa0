-- One frame that a stack passes at the front, as a step of what the stack holds.
use Rattle.std.specs.Prelude.{◌≡◌, ℕ, ◌+◌, List, [], ◌∷◌, ◌++◌, drop, if◌then◌else◌, Option, Some, None}
use Rattle.rand_core.specs.Stream.{Stream}
use Rattle.dill_stack.specs.declared.want.Want.{Want}
use Rattle.dill_stack.specs.declared.want.Want.TheVariants.{Message}
use Rattle.dill_stack.specs.Layers.{WsLayer, Placed, Ws}
use Rattle.dill_stack.specs.Held.{Held}
use Rattle.dill_stack.specs.WsReading.{Passed, pass_by_front, ws_front}
use Rattle.dill_stack.specs.Read.{Outcome}
use Rattle.dill_stack.specs.Receiving.{ws_of, with_pongs_of}
use Rattle.dill_stack.specs.Refusals.{is_met}

-- the pass at the front for this layer
abbrev pub pass_of_ws : ℕ → List ℕ → Option WsLayer → Option Passed
pass_of_ws limit u None = None
pass_of_ws limit u (Some ws) = pass_by_front ws (ws_front limit ws u)

-- the pass at the front of a stack, of which no layer has met its end
abbrev pub next_pass : ℕ → Held → Option Passed
next_pass limit s = if is_met s.layers then None else pass_of_ws limit s.unread (ws_of s.layers)

-- these layers, of which the WebSocket layer is this now
abbrev pub with_ws : WsLayer → List Placed → List Placed
with_ws x [] = []
with_ws x (Ws ws ∷ below) = Ws x ∷ below
with_ws x (layer ∷ below) = layer ∷ with_ws x below

-- a stack behind a pass
abbrev pub passed_on : Passed → Held → Held
passed_on p s = record s { layers = with_ws p.ws s.layers; unread = drop p.used s.unread }

-- a stack that has passed a frame and queued its pong, and the numbers that are left
abbrev pub stepped : Passed → Stream → Held → Held × Stream
stepped p random s = with_pongs_of (ws_of s.layers) p.pings random (passed_on p s)

-- the same outcome, behind a pass
abbrev pub behind_pass : Passed → Outcome → Outcome
behind_pass p o = record { used = p.used + o.used; layers = o.layers; pings = p.pings ++ o.pings; said = o.said }

-- A receive passes nothing more.
abbrev pub PassesNothing : Want → Held → Type 0
PassesNothing (Message limit) s = next_pass limit s ≡ None
PassesNothing _ s = Unit {0}
