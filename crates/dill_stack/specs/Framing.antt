-- What a WebSocket layer does with the frame at the front.
use Rattle.std.specs.Prelude.{◌≡◌, ◌≤◌, ◌+◌, ℕ, List, [], ◌∷◌, length, drop, Bool, true, false, Option, Some, None}
use Rattle.dill_stack.specs.declared.frames.FrameFront.{FrameFront}
use Rattle.dill_stack.specs.declared.frames.FrameFront.TheVariants as told
use Rattle.dill_stack.specs.declared.frames.Pass.{Pass}
use Rattle.dill_stack.specs.declared.frames.Pass.TheVariants as passes
use Rattle.dill_stack.specs.declared.placed.Framed.{Framed}
use Rattle.rand_core.specs.Stream.{Stream}
use Rattle.dill_stack.specs.declared.placed.Base.{Base}
use Rattle.dill_stack.specs.declared.placed.Base.TheVariants as base
use Rattle.dill_stack.specs.Layers.{TermLayer, WsLayer}
use Rattle.dill_stack.specs.Held.{Held}
use Rattle.dill_stack.specs.Composed.{masks, key_of}
use Rattle.dill_stack.specs.Receiving.{ws_of, answers_pings}
use Rattle.dill_stack.specs.Rooms.{Roomy, roomy, Stocked}
use Rattle.dill_stack.specs.Standing.{ws_layer, base_layers, JoinsWithin, IsTower}
use Rattle.dill_stack.specs.Stepping.{pass_of_ws, next_pass, with_ws, passed_on, stepped}
use Rattle.dill_stack.specs.WsReading.{WsFront, Whole, Short, Refused, Passed, part_of, pass_by_front, ws_front}

-- the frame that is told by its head
abbrev pub front_told : List ℕ → FrameFront → WsFront
front_told u (told.Whole h) = Whole (part_of h u) (h.start + h.length)
front_told u told.Short = Short
front_told u (told.Refused e) = Refused e

-- A whole frame is there.
abbrev pub IsTold : List ℕ → FrameFront → Type 0
IsTold u (told.Whole h) = h.start + h.length ≤ length u
IsTold u told.Short = Unit {0}
IsTold u (told.Refused e) = Unit {0}

-- a frame with these pings was passed
pub record PassedBy (limit : ℕ) (old : Framed) (u : Roomy ℕ) (pings : List (List ℕ)) (new : Framed) (v : Roomy ℕ) : Type 0 where
  pub used : ℕ
  pub there : used ≤ length u.items
  pub some : 1 ≤ used
  pub pass : pass_by_front (ws_layer old) (ws_front limit (ws_layer old) u.items) ≡ Some (record { used = used; ws = ws_layer new; pings = pings })
  pub bytes : v ≡ roomy (drop used u.items) u.room
  pub room : new.joined.room ≡ old.joined.room

-- what was passed at the front, as it is told
abbrev pub Passes : ℕ → Framed → Roomy ℕ → Pass → Framed → Roomy ℕ → Type 0
Passes limit old u passes.Nothing new v = (pass_by_front (ws_layer old) (ws_front limit (ws_layer old) u.items) ≡ None) × (new ≡ old) × (v ≡ u)
Passes limit old u passes.Frame new v = PassedBy limit old u [] new v
Passes limit old u (passes.Ping payload) new v = PassedBy limit old u (payload ∷ []) new v

-- a frame with these pings was passed by the layer on the link
pub record LinkPassed (limit : ℕ) (old : Base) (u : Roomy ℕ) (pings : List (List ℕ)) (new : Base) (v : Roomy ℕ) : Type 0 where
  pub p : Passed
  pub pings_are : p.pings ≡ pings
  pub pass : pass_of_ws limit u.items (ws_of (base_layers old)) ≡ Some p
  pub layers : base_layers new ≡ with_ws p.ws (base_layers old)
  pub bytes : v ≡ roomy (drop p.used u.items) u.room
  pub joins : (n : ℕ) → JoinsWithin n old → JoinsWithin n new
  pub stands : (terms : List TermLayer) (sending : ℕ) → IsTower terms old sending → IsTower terms new sending

-- what was passed at the front by the layer on the link, as it is told
abbrev pub LinkPasses : ℕ → Base → Roomy ℕ → Pass → Base → Roomy ℕ → Type 0
LinkPasses limit old u passes.Nothing new v = (pass_of_ws limit u.items (ws_of (base_layers old)) ≡ None) × (new ≡ old) × (v ≡ u)
LinkPasses limit old u passes.Frame new v = LinkPassed limit old u [] new v
LinkPasses limit old u (passes.Ping payload) new v = LinkPassed limit old u (payload ∷ []) new v

-- a frame with these pings was passed, and no pong is queued yet
pub record StackPassed (limit : ℕ) (pings : List (List ℕ)) (before now : Stocked) : Type 0 where
  pub p : Passed
  pub pings_are : p.pings ≡ pings
  pub pass : next_pass limit before.held ≡ Some p
  pub now_is : now ≡ record before { held = passed_on p before.held }

-- what was passed at the front of a stack, as it is told
abbrev pub StackPasses : ℕ → Pass → (before now : Stocked) → Type 0
StackPasses limit passes.Nothing before now = (next_pass limit before.held ≡ None) × (now ≡ before)
StackPasses limit passes.Frame before now = StackPassed limit [] before now
StackPasses limit (passes.Ping payload) before now = StackPassed limit (payload ∷ []) before now

-- a frame was passed, and its pong queued
pub record HasStepped (limit : ℕ) (before now : Stocked) (random left : Stream) : Type 0 where
  pub p : Passed
  pub pass : next_pass limit before.held ≡ Some p
  pub now_is : now ≡ record before { held = (stepped p random before.held).0 }
  pub left_is : left ≡ (stepped p random before.held).1

-- one frame was passed, or none is there to be passed
abbrev pub PassesNext : ℕ → Bool → (before now : Stocked) → (random left : Stream) → Type 0
PassesNext limit true before now random left = HasStepped limit before now random left
PassesNext limit false before now random left = (next_pass limit before.held ≡ None) × (now ≡ before) × (left ≡ random)

-- pings are answered by a pong
abbrev pub answers_of : Option WsLayer → Held → Bool
answers_of None s = false
answers_of (Some ws) s = answers_pings ws s

-- the layer's pongs are masked
abbrev pub masks_of : Option WsLayer → Bool
masks_of None = false
masks_of (Some ws) = masks ws.side

-- the masking key of its pongs
abbrev pub key_in : Option WsLayer → List ℕ → Option (List ℕ)
key_in None key = None
key_in (Some ws) key = key_of ws.side key
