-- What a WebSocket layer sees at the front, where no frame is passed.
use Rattle.std.specs.Prelude.{◌≡◌, ◌≤◌, ℕ, List, [], ◌∷◌, Bool, true, length, drop, Option, Some, None}
use Rattle.dill_base.specs.declared.errno.Errno.TheVariants.{Epipe}
use Rattle.dill_calls.specs.declared.answer.Answer.TheVariants.{Bytes}
use Rattle.dill_stack.specs.declared.placed.Base.{Base}
use Rattle.dill_stack.specs.declared.placed.Base.TheVariants as base
use Rattle.dill_stack.specs.declared.placed.Framed.{Framed}
use Rattle.dill_stack.specs.declared.seeing.Seen.{Seen}
use Rattle.dill_stack.specs.declared.seeing.Seen.TheVariants as seen
use Rattle.dill_stack.specs.declared.want.ReadOut.TheVariants.{Given, Fault}
use Rattle.dill_stack.specs.declared.want.ReadOut.{ReadOut}
use Rattle.dill_stack.specs.Layers.{WsLayer, Placed, Ws}
use Rattle.dill_stack.specs.Held.{Held}
use Rattle.dill_stack.specs.Read.{Outcome, outcome, no_more, read_ws}
use Rattle.dill_stack.specs.Receiving.{ws_of}
use Rattle.dill_stack.specs.Rooms.{Roomy, roomy, Stocked}
use Rattle.dill_stack.specs.Standing.{ws_layer}
use Rattle.dill_stack.specs.Stepping.{with_ws}
use Rattle.dill_stack.specs.Taking.{over_layers}
use Rattle.dill_stack.specs.WsReading.{pass_by_front, ws_front, shown}

-- nothing is joined now
abbrev pub emptied : WsLayer → WsLayer
emptied ws = record ws { joining = None; joined = [] }

-- A message stands there, and all of it was joined.
pub record SeesMessage (limit : ℕ) (old : Framed) (u : Roomy ℕ) (new : Framed) (v : Roomy ℕ) : Type 0 where
  pub used : ℕ
  pub some : 1 ≤ used
  pub there : used ≤ length u.items
  pub within : length new.joined.items ≤ limit
  pub shows : (ended : Bool) → shown limit ended (ws_layer old) u.items ≡ record { used = used; ws = emptied (ws_layer old); said = Given (Bytes new.joined.items) }
  pub joins : new ≡ record old { joined = roomy new.joined.items old.joined.room }
  pub bytes : v ≡ roomy (drop used u.items) u.room

-- A close frame stands there.
pub record SeesClose (limit : ℕ) (old : Framed) (u : Roomy ℕ) (new : Framed) (v : Roomy ℕ) : Type 0 where
  pub used : ℕ
  pub shows : (ended : Bool) → shown limit ended (ws_layer old) u.items ≡ record { used = used; ws = ws_layer new; said = Fault Epipe }
  pub met : new ≡ record old { met = true }
  pub bytes : v ≡ roomy (drop used u.items) u.room

-- what stands at the front, as it is told
abbrev pub Sees : ℕ → Framed → Roomy ℕ → Seen → Framed → Roomy ℕ → Type 0
Sees limit old u seen.Message new v = SeesMessage limit old u new v
Sees limit old u seen.Close new v = SeesClose limit old u new v
Sees limit old u (seen.Open boundary) new v = ((ended : Bool) → shown limit ended (ws_layer old) u.items ≡ record { used = 0; ws = ws_layer old; said = no_more ended boundary u.items }) × (new ≡ old) × (v ≡ u)
Sees limit old u (seen.Refused e) new v = ((ended : Bool) → shown limit ended (ws_layer old) u.items ≡ record { used = 0; ws = ws_layer old; said = Fault e }) × (new ≡ old) × (v ≡ u)

-- No frame is passed at the front.
abbrev pub PassesNone : ℕ → Base → Roomy ℕ → Type 0
PassesNone limit (base.Ws framed) u = pass_by_front (ws_layer framed) (ws_front limit (ws_layer framed) u.items) ≡ None
PassesNone limit b u = Unit {0}

-- the same for the layer on the link
abbrev pub LinkSees : ℕ → Base → Roomy ℕ → Seen → Base → Roomy ℕ → Type 0
LinkSees limit (base.Ws framed) u seen new v = (other : Framed) × (new ≡ base.Ws other) × Sees limit framed u seen other v
LinkSees limit old u seen new v = (new ≡ old) × (v ≡ u)

-- A message stands at the front of the stack, and all of it was joined.
pub record StackMessage (limit : ℕ) (before now : Stocked) : Type 0 where
  pub used : ℕ
  pub ws : WsLayer
  pub all : List ℕ
  pub some : 1 ≤ used
  pub spare : used ≤ length before.held.unread
  pub within : length all ≤ limit
  pub there : ws_of before.held.layers ≡ Some ws
  pub reads : read_ws [] ws before.held.unread before.held.receiving.done limit ≡ outcome used (Ws (emptied ws) ∷ []) (Given (Bytes all))
  pub now_is : now ≡ record before { held = record before.held { layers = with_ws (record ws { joined = all }) before.held.layers; unread = drop used before.held.unread } }

-- A close frame stands there.
pub record StackClose (limit : ℕ) (before now : Stocked) : Type 0 where
  pub used : ℕ
  pub ws : WsLayer
  pub there : ws_of before.held.layers ≡ Some ws
  pub reads : read_ws [] ws before.held.unread before.held.receiving.done limit ≡ outcome used (Ws (record ws { met = true }) ∷ []) (Fault Epipe)
  pub now_is : now ≡ record before { held = record before.held { layers = with_ws (record ws { met = true }) before.held.layers; unread = drop used before.held.unread } }

-- No frame stands there, and nothing changes.
pub record StackOpen (limit : ℕ) (said : ReadOut) (before now : Stocked) : Type 0 where
  pub ws : WsLayer
  pub there : ws_of before.held.layers ≡ Some ws
  pub reads : read_ws [] ws before.held.unread before.held.receiving.done limit ≡ outcome 0 (Ws ws ∷ []) said
  pub now_is : now ≡ before

-- what stands at the front of a stack, as it is told
abbrev pub StackSees : ℕ → Seen → (before now : Stocked) → Type 0
StackSees limit seen.Message before now = StackMessage limit before now
StackSees limit seen.Close before now = StackClose limit before now
StackSees limit (seen.Open boundary) before now = StackOpen limit (no_more before.held.receiving.done boundary before.held.unread) before now
StackSees limit (seen.Refused e) before now = StackOpen limit (Fault e) before now

-- the bytes that the WebSocket layer of a stack has joined
abbrev pub joined_by : Option WsLayer → List ℕ
joined_by None = []
joined_by (Some ws) = ws.joined

abbrev pub joined_in : List Placed → List ℕ
joined_in layers = joined_by (ws_of layers)

-- these layers, of which the WebSocket layer has joined nothing now
abbrev pub emptied_by : Option WsLayer → List Placed → List Placed
emptied_by None layers = layers
emptied_by (Some ws) layers = with_ws (emptied ws) layers

abbrev pub emptied_layers : List Placed → List Placed
emptied_layers layers = emptied_by (ws_of layers) layers

-- the message that was joined, past each end
abbrev pub joined_given : Held → Outcome
joined_given s = over_layers (emptied_layers s.layers) (outcome 0 [] (Given (Bytes (joined_in s.layers))))
