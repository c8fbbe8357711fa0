-- A receive as a step of what the stack holds: what is used, the pongs that it queues, and the direction that a refusal breaks.
use Rattle.std.specs.Prelude.{ℕ, List, [], ◌∷◌, ◌++◌, Bool, true, false, not, ◌==◌, ◌&&◌, map, if◌then◌else◌, Option, Some, None}
use Rattle.std.specs.List.{list_any}
use Rattle.rand_core.specs.Stream.{Stream}
use Rattle.dill_base.specs.declared.errno.Errno.TheVariants.{Eproto, Emsgsize}
use Rattle.dill_ws.specs.declared.side.Side.{Side}
use Rattle.dill_ws.specs.declared.side.Side.TheVariants.{Client, Server}
use Rattle.dill_ws.specs.Frames.{frame_bytes}
use Rattle.dill_stack.specs.declared.want.Want.{Want}
use Rattle.dill_stack.specs.declared.want.ReadOut.{ReadOut}
use Rattle.dill_stack.specs.declared.want.ReadOut.TheVariants.{Fault}
use Rattle.dill_stack.specs.Layers.{WsLayer, Placed, Ws}
use Rattle.dill_stack.specs.Held.{Held, Item, Pong, use_bytes}
use Rattle.dill_stack.specs.Composed.{drawn_key}
use Rattle.dill_stack.specs.Sending.{is_pong}
use Rattle.dill_stack.specs.Read.{Outcome, read_list}

-- a stack after a look, what was answered, and the random numbers that are left
pub record Looked : Type 0 where
  pub stack : Held
  pub said : ReadOut
  pub random : Stream

-- the WebSocket layer of a stack, which is the one on the link
abbrev pub ws_of : List Placed → Option WsLayer
ws_of [] = None
ws_of (Ws ws ∷ below) = Some ws
ws_of (layer ∷ below) = ws_of below

-- none of its bytes has gone
abbrev pub is_waiting_pong : Item → Bool
is_waiting_pong item = is_pong item && item.gone == 0

-- the pong in place of the one that waits
abbrev pub replaced : List ℕ → Item → Item
replaced w item = if is_waiting_pong item then record item { bytes = w } else item

-- A pong takes the place of one that hasn't begun to go, or is queued last.
abbrev pub with_pong : List ℕ → List Item → List Item
with_pong w queue = if list_any is_waiting_pong queue then map (replaced w) queue else queue ++ record { bytes = w; gone = 0; origin = Pong } ∷ []

-- the pong of a side, and the numbers that are left; a client masks it
abbrev pub pong_of : Side → List ℕ → Stream → List ℕ × Stream
pong_of Client payload random = (frame_bytes true 10 (Some (drawn_key random).0) payload, (drawn_key random).1)
pong_of Server payload random = (frame_bytes true 10 None payload, random)

-- a queue and the numbers that are left
abbrev pub ponged : Side → List (List ℕ) → List Item × Stream → List Item × Stream
ponged side [] now = now
ponged side (payload ∷ pings) now = ponged side pings (with_pong (pong_of side payload now.1).0 now.0, (pong_of side payload now.1).1)

-- No pong is queued behind a close frame, nor where the sending direction is broken or done.
abbrev pub answers_pings : WsLayer → Held → Bool
answers_pings ws s = not ws.closed && not s.sending.broken && not s.sending.done

-- a stack that has queued the pongs, and the numbers that are left
abbrev pub with_pongs_of : Option WsLayer → List (List ℕ) → Stream → Held → Held × Stream
with_pongs_of None pings random s = (s, random)
with_pongs_of (Some ws) pings random s =
    if answers_pings ws s then (record s { queue = (ponged ws.side pings (s.queue, random)).0 }, (ponged ws.side pings (s.queue, random)).1)
    else (s, random)

-- the stack after an outcome: what it uses, the layers that it leaves, and its pongs
abbrev pub looked_over : Outcome → Stream → Held → Looked
looked_over o random s =
    let now = with_pongs_of (ws_of s.layers) o.pings random (record (use_bytes o.used s) { layers = o.layers }) in
    record { stack = now.0; said = o.said; random = now.1 }

-- a refusal that breaks the receiving direction
abbrev pub breaks : ReadOut → Bool
breaks (Fault Eproto) = true
breaks (Fault Emsgsize) = true
breaks _ = false

-- the receiving direction after an answer
abbrev pub broken_by : ReadOut → Held → Held
broken_by said s = if breaks said then record s { receiving = record s.receiving { broken = true } } else s

-- the stack read over the whole unread list
abbrev pub read_of : Want → Held → Outcome
read_of want s = read_list s.layers s.unread s.receiving.done want

-- the stack after an answer
abbrev pub settled : Looked → Looked
settled l = record l { stack = broken_by l.said l.stack }

-- a look of a receive at the unread list
unfoldable pub read : Want → Stream → Held → Looked
read want random s = settled (looked_over (read_of want s) random s)
