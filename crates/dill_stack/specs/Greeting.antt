-- Handshakes, by which a WebSocket layer comes on a stack of bytes (RFC 6455, section 4).
use Rattle.std.specs.Prelude.{ℕ, List, ◌∷◌, ◌++◌, Bool, true, not, ◌&&◌, if◌then◌else◌, Option, Result, Ok}
use Rattle.rand_core.specs.Stream.{Stream}
use Rattle.base64.specs.GeneralPurpose.{encode_of}
use Rattle.base64.specs.Engines.{standard}
use Rattle.dill_base.specs.declared.errno.Errno.{Errno}
use Rattle.dill_base.specs.declared.errno.Front.{Front}
use Rattle.dill_base.specs.declared.errno.Front.TheVariants as front
use Rattle.dill_calls.specs.declared.answer.Answer.TheVariants.{Number}
use Rattle.dill_http.specs.Bytes.{is_resource}
use Rattle.dill_ws.specs.declared.request.Asked.{Asked}
use Rattle.dill_ws.specs.declared.request.Asked.TheVariants as asked
use Rattle.dill_ws.specs.declared.side.Side.TheVariants.{Client}
use Rattle.dill_ws.specs.Handshakes.{accept_text, client_lines, head_of_lines, any_key, are_too_long, server_head_of, client_front, server_front}
use Rattle.dill_stack.specs.declared.want.ReadOut.{ReadOut}
use Rattle.dill_stack.specs.declared.want.ReadOut.TheVariants.{Given, Need, Fault}
use Rattle.dill_stack.specs.Layers.{fresh_ws, Ws}
use Rattle.dill_stack.specs.Held.{Held, use_bytes, Plain, Task, Idle, Greets, Expects, Answers}
use Rattle.dill_stack.specs.Composed.{drawn_key}
use Rattle.dill_stack.specs.Sending.{unless, is_sent, queued}
use Rattle.dill_stack.specs.Read.{no_more}
use Rattle.dill_stack.specs.Attaching.{greet_fault}

-- The refusal of a client's handshake: its resource and host have to be one or more bytes that are seen, and its lines within their limits, whatever the key.
abbrev pub offer_fault : (resource host : List ℕ) → Held → Option Errno
offer_fault resource host s = greet_fault (not (is_resource resource && is_resource host)) (are_too_long (client_lines resource host any_key)) s

-- sixteen bytes of four random numbers, and the words that are left
abbrev pub nonce : Stream → List ℕ × Stream
nonce random =
    let a = drawn_key random in
    let b = drawn_key a.1 in
    let c = drawn_key b.1 in
    let d = drawn_key c.1 in
    (a.0 ++ b.0 ++ c.0 ++ d.0, d.1)

-- the text of a key
abbrev pub key_text : Stream → List ℕ
key_text random = encode_of standard (nonce random).0

-- A client's layer stands on top from now on, its head is queued, and the server's is waited for.
abbrev pub greeting : Bool → (resource host key : List ℕ) → Held → Held
greeting text resource host key s =
    record (queued Plain (head_of_lines (client_lines resource host key)) s) { layers = Ws (fresh_ws Client text) ∷ s.layers; task = Greets (accept_text key) }

-- the handshake of a client begins
unfoldable pub greet : Bool → (resource host : List ℕ) → Stream → Held → Result (Held × Stream) Errno
greet text resource host random s =
    unless (offer_fault resource host s)
    (Ok (greeting text resource host (key_text random) s, (nonce random).1))

-- a stack after a look at its handshake, and what was answered
pub record Heard : Type 0 where
  pub stack : Held
  pub said : ReadOut

-- the handshake is over
abbrev pub met_after : ℕ → Held → Heard
met_after used s = record { stack = record (use_bytes used s) { task = Idle }; said = Given (Number 0) }

-- no whole head is there
abbrev pub unmet : Held → Heard
unmet s = record { stack = s; said = no_more s.receiving.done true s.unread }

-- a server's head at the front
abbrev pub by_server : Front → Held → Heard
by_server (front.Whole from to used) s = met_after used s
by_server front.Need s = unmet s
by_server (front.Fault e) s = record { stack = s; said = Fault e }

-- a client's head at the front: it is used, and the own head is queued
abbrev pub by_client : Asked → Held → Heard
by_client (asked.Whole key used) s = record { stack = record (queued Plain (server_head_of (accept_text key)) (use_bytes used s)) { task = Answers }; said = Need }
by_client asked.Need s = unmet s
by_client (asked.Fault e) s = record { stack = s; said = Fault e }

-- A client looks for the server's head once its own has gone. A server looks for the client's, and then waits until its own has gone.
abbrev pub heard_by : Task → Held → Heard
heard_by (Greets accept) s = if is_sent s then by_server (server_front accept s.unread) s else record { stack = s; said = Need }
heard_by Expects s = by_client (client_front s.unread) s
heard_by Answers s = if is_sent s then met_after 0 s else record { stack = s; said = Need }
heard_by task s = record { stack = s; said = Need }

-- a look at the handshake that has begun
unfoldable pub greeted : Held → Heard
greeted s = heard_by s.task s
