-- What a WebSocket layer reads at the front of the unread list: frames that are passed, then a message or an end (RFC 6455, sections 5.2, 5.4 and 5.5).
use Rattle.std.specs.Prelude.{ℕ, zero, suc, ◌+◌, ◌%◌, List, [], ◌∷◌, ◌++◌, Bool, true, false, not, ◌==◌, ◌&&◌, length, drop, slice_index, nat_lt, nat_le, is_some, is_none, if◌then◌else◌, Option, Some, None}
use Rattle.std.specs.Option.{unwrap_or}
use Rattle.std.specs.Str.{is_utf8}
use Rattle.dill_base.specs.declared.errno.Errno.{Errno}
use Rattle.dill_base.specs.declared.errno.Errno.TheVariants.{Epipe, Eproto, Emsgsize}
use Rattle.dill_calls.specs.declared.answer.Answer.TheVariants.{Bytes}
use Rattle.dill_ws.specs.declared.head.Head.{Head}
use Rattle.dill_ws.specs.declared.head.HeadFront.{HeadFront}
use Rattle.dill_ws.specs.declared.head.HeadFront.TheVariants as head
use Rattle.dill_ws.specs.Closing.{close_of}
use Rattle.dill_ws.specs.FrameLaws.{payload_at}
use Rattle.dill_ws.specs.Frames.{Part}
use Rattle.dill_ws.specs.Fronts.{head_front, bits_of, length_size, told}
use Rattle.dill_stack.specs.declared.want.ReadOut.{ReadOut}
use Rattle.dill_stack.specs.declared.want.ReadOut.TheVariants.{Given, Need, Fault}
use Rattle.dill_stack.specs.Layers.{WsLayer}

-- what stands at the front: a whole frame with so many bytes, too little to judge, or a refusal
pub data WsFront : Type 0 where
  Whole : Part → ℕ → WsFront
  Short : WsFront
  Refused : Errno → WsFront

-- bytes 1 and 2 and all bytes of the length are there
abbrev pub has_length : List ℕ → Bool
has_length u = nat_le 2 (length u) && nat_le (2 + length_size (bits_of (slice_index u 1))) (length u)

-- the length of the payload, where all its bytes are there
abbrev pub length_at : List ℕ → ℕ
length_at u = told (bits_of (slice_index u 1)) (drop 2 u)

-- continuation, text or binary
abbrev pub is_data : ℕ → Bool
is_data opcode = nat_le opcode 2

-- A data frame is told whose payload passes the limit, with what was joined before it.
abbrev pub passes_limit : ℕ → WsLayer → List ℕ → Bool
passes_limit limit ws u = has_length u && is_data (slice_index u 0 % 16) && nat_lt limit (length ws.joined + length_at u)

-- the frame of this head
abbrev pub part_of : Head → List ℕ → Part
part_of h u = record { fin = h.fin; opcode = h.opcode; payload = payload_at h u }

-- a frame whose head was not refused
abbrev pub by_head : List ℕ → HeadFront → WsFront
by_head u (head.Whole h) = if nat_lt (length u) (h.start + h.length) then Short else Whole (part_of h u) (h.start + h.length)
by_head u head.Need = Short
by_head u (head.Fault e) = Refused e

-- the head is refused
abbrev pub is_fault : HeadFront → Bool
is_fault (head.Fault e) = true
is_fault _ = false

-- The head is judged first, then its length against the limit.
abbrev pub judged : ℕ → WsLayer → List ℕ → HeadFront → WsFront
judged limit ws u front = if not (is_fault front) && passes_limit limit ws u then Refused Emsgsize else by_head u front

-- the frame at the front
unfoldable pub ws_front : ℕ → WsLayer → List ℕ → WsFront
ws_front limit ws u = judged limit ws u (head_front ws.side (is_some ws.joining) u)

-- so many bytes were passed, with the payloads of the pings among them
pub record Passed : Type 0 where
  pub used : ℕ
  pub ws : WsLayer
  pub pings : List (List ℕ)

-- a data frame was joined to those before it
abbrev pub with_part : Part → WsLayer → WsLayer
with_part part ws = record ws { joining = Some (unwrap_or ws.joining part.opcode); joined = ws.joined ++ part.payload }

-- A ping, a pong and a data frame that doesn't end its message are passed.
abbrev pub pass_of : WsLayer → Part → ℕ → Option Passed
pass_of ws part used =
    if part.opcode == 9 then Some (record { used = used; ws = ws; pings = part.payload ∷ [] })
    else if part.opcode == 10 then Some (record { used = used; ws = ws; pings = [] })
    else if is_data part.opcode && not part.fin then Some (record { used = used; ws = with_part part ws; pings = [] })
    else None

-- the pass at the front, if what stands there is passed
abbrev pub pass_by_front : WsLayer → WsFront → Option Passed
pass_by_front ws (Whole part used) = pass_of ws part used
pass_by_front ws Short = None
pass_by_front ws (Refused e) = None

-- no frame is passed
abbrev pub nothing_passed : WsLayer → Passed
nothing_passed ws = record { used = 0; ws = ws; pings = [] }

-- one pass, and then others
abbrev pub then_passed : Passed → Passed → Passed
then_passed p q = record { used = p.used + q.used; ws = q.ws; pings = p.pings ++ q.pings }

-- what is passed from here on, behind a pass at the front if there is one
abbrev pub after_pass : (WsLayer → List ℕ → Passed) → WsLayer → List ℕ → Option Passed → Passed
after_pass again ws u None = nothing_passed ws
after_pass again ws u (Some p) = then_passed p (again p.ws (drop p.used u))

-- All frames that are passed at the front; each has a byte at least, so the length of the list is enough of them.
abbrev pub passed_within : ℕ → ℕ → WsLayer → List ℕ → Passed
passed_within zero limit ws u = nothing_passed ws
passed_within (suc most) limit ws u = after_pass (passed_within most limit) ws u (pass_by_front ws (ws_front limit ws u))

-- all frames that are passed at the front of the list
unfoldable pub passed : ℕ → WsLayer → List ℕ → Passed
passed limit ws u = passed_within (length u) limit ws u

-- how many bytes are used for an answer, the layer after, and the answer
pub record Shown : Type 0 where
  pub used : ℕ
  pub ws : WsLayer
  pub said : ReadOut

-- The list ended: at a boundary where nothing is unread and nothing joined, else inside a message.
abbrev pub at_end : WsLayer → List ℕ → ReadOut
at_end ws u = if length u == 0 && is_none ws.joining then Fault Epipe else Fault Eproto

-- The last frame of a message that began with opcode 1 makes it whole only where it is UTF-8.
abbrev pub message_of : WsLayer → Part → ℕ → Shown
message_of ws part used =
    let all = ws.joined ++ part.payload in
    if unwrap_or ws.joining part.opcode == 1 && not (is_utf8 all) then record { used = 0; ws = ws; said = Fault Eproto }
    else record { used = used; ws = record ws { joining = None; joined = [] }; said = Given (Bytes all) }

-- A close frame is taken where its payload is allowed.
abbrev pub close_met : WsLayer → Part → ℕ → Shown
close_met ws part used =
    if is_some (close_of part.payload) then record { used = used; ws = record ws { met = true }; said = Fault Epipe }
    else record { used = 0; ws = ws; said = Fault Eproto }

-- what is shown by what stands behind all that is passed
abbrev pub shown_by : Bool → WsLayer → List ℕ → WsFront → Shown
shown_by ended ws u (Whole part used) = if part.opcode == 8 then close_met ws part used else message_of ws part used
shown_by ended ws u Short = record { used = 0; ws = ws; said = if ended then at_end ws u else Need }
shown_by ended ws u (Refused e) = record { used = 0; ws = ws; said = Fault e }

-- what stands behind the frames that were passed
unfoldable pub shown : ℕ → Bool → WsLayer → List ℕ → Shown
shown limit ended ws u = shown_by ended ws u (ws_front limit ws u)
