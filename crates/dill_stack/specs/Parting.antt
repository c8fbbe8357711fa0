-- Detaches, which send the end of the top layer if it wasn't sent, drop what the peer still sends, and leave the layers below with the rest.
use Rattle.std.specs.Prelude.{ℕ, List, [], ◌∷◌, ◌++◌, Bool, true, false, not, ◌==◌, ◌&&◌, ◌||◌, length, if◌then◌else◌, Option, Some, None, Result, Ok}
use Rattle.std.specs.List.{list_any}
use Rattle.std.specs.Int.{w16, to_be_bytes}
use Rattle.rand_core.specs.Stream.{Stream}
use Rattle.dill_base.specs.declared.errno.Errno.{Errno}
use Rattle.dill_base.specs.declared.errno.Errno.TheVariants.{Epipe, Econnreset}
use Rattle.dill_ws.specs.Frames.{frame_bytes}
use Rattle.dill_stack.specs.declared.parting.Parting.{Parting}
use Rattle.dill_stack.specs.declared.parting.Parting.TheVariants as parting
use Rattle.dill_stack.specs.declared.want.ReadOut.TheVariants.{Need}
use Rattle.dill_stack.specs.Layers.{Placed, Prefix, Suffix, Term, Http, Ws, WsLayer}
use Rattle.dill_stack.specs.Held.{Held, Plain, Idle, Leaves, is_broken}
use Rattle.dill_stack.specs.Composed.{key_of, drawn_key, random_after}
use Rattle.dill_stack.specs.Refusals.{is_done_layer}
use Rattle.dill_stack.specs.Sending.{unless, is_sent, queued, with_end}
use Rattle.dill_stack.specs.Dropping.{is_given, dropped}
use Rattle.dill_stack.specs.Receiving.{Looked, looked_over}

-- The top layer has an end to send: one that has two and wasn't sent. A close frame is always sent.
abbrev pub has_end_to_send : Placed → Bool
has_end_to_send (Prefix form) = false
has_end_to_send (Suffix end) = false
has_end_to_send (Term term) = not (is_done_layer (Term term))
has_end_to_send (Http http) = not (is_done_layer (Http http))
has_end_to_send (Ws ws) = true

-- It has an end to send, and nothing more is sent below it.
abbrev pub is_cut_off : List Placed → Bool → Bool
is_cut_off [] done_below = false
is_cut_off (layer ∷ below) done_below = has_end_to_send layer && (done_below || list_any is_done_layer below)

-- The errno with which a detach that is past its refusals ends at its entry.
unfoldable pub parting_fault : Held → Option Errno
parting_fault s =
    if is_broken s then Some Econnreset
    else if is_cut_off s.layers s.sending.done then Some Epipe
    else None

-- neither code nor reason, or both (RFC 6455, section 5.5.1)
abbrev pub close_payload : Parting → List ℕ
close_payload parting.Plain = []
close_payload (parting.Close code reason) = if code == 0 && length reason == 0 then [] else to_be_bytes w16 code ++ reason

-- A close frame is queued, and no pong is queued behind it.
abbrev pub with_close : Parting → WsLayer → List Placed → Stream → Held → Held × Stream
with_close p ws below random s = (
  record (queued Plain (frame_bytes true 8 (key_of ws.side (drawn_key random).0) (close_payload p)) s) { layers = Ws (record ws { closed = true }) ∷ below },
  random_after (Ws ws ∷ below) random,
)

-- The end that is still to be sent is queued.
abbrev pub with_parting : Parting → List Placed → Stream → Held → Result (Held × Stream) Errno
with_parting p [] random s = Ok (s, random)
with_parting p (Prefix form ∷ below) random s = Ok (s, random)
with_parting p (Suffix end ∷ below) random s = Ok (s, random)
with_parting p (Ws ws ∷ below) random s = Ok (with_close p ws below random s)
with_parting p (layer ∷ below) random s = if has_end_to_send layer then with_end (layer ∷ below) random s else Ok (s, random)

-- A detach begins.
unfoldable pub detach_start : Parting → Stream → Held → Result (Held × Stream) Errno
detach_start p random s = unless (parting_fault s) (with_parting p s.layers random (record s { task = Leaves }))

-- A detach that was answered is over.
abbrev pub left_over : Looked → Looked
left_over l = if is_given l.said then record l { stack = record l.stack { task = Idle } } else l

-- A detach goes on: once all that it sends has gone, it drops what is there, and is answered when it has met the peer's end.
unfoldable pub detach_finish : Stream → Held → Looked
detach_finish random s =
    if is_sent s then left_over (looked_over (dropped s.layers s.unread s.receiving.done) random s)
    else record { stack = s; said = Need; random = random }
