-- Worked examples of places that could be read in two ways: a close frame below an end, heads without case, another's stack, the order of notes, and handles that their taker waited for.
use Rattle.std.specs.Prelude.{◌≡◌, ◌&&◌, ℕ, zero, suc, List, [], ◌∷◌, ◌++◌, Bool, true, false, not, map, length, codes, Option, Some, None}
use Rattle.std.specs.List.{list_any}
use Rattle.dill_base.specs.declared.deadline.Deadline.TheVariants.{Never, At}
use Rattle.dill_base.specs.declared.errno.Errno.{Errno}
use Rattle.dill_base.specs.declared.errno.Errno.TheVariants.{Ebusy, Ecanceled, Eproto}
use Rattle.dill_calls.specs.declared.call.Call.{Call}
use Rattle.dill_calls.specs.declared.call.Call.TheVariants as calls
use Rattle.dill_calls.specs.declared.ran.Note.{Note}
use Rattle.dill_calls.specs.declared.ran.Note.TheVariants.{Moved, Freed}
use Rattle.dill_kernel.specs.declared.replies.KernelReply.TheVariants.{Woke, Done, NotYet, Came, Took}
use Rattle.dill_scope.specs.Scopes.{Scopes}
use Rattle.dill_handles.specs.declared.entry.Entry.{Entry}
use Rattle.dill_stack.specs.declared.layer.Layer.TheVariants as layer
use Rattle.dill_stack.specs.Held.{Held}
use Rattle.dill_stack.specs.RowTerms.{attached, big2}
use Rattle.dill_ws.specs.declared.side.Side.TheVariants.{Client}
use Rattle.dill_ws.specs.declared.request.Asked.TheVariants as asked
use Rattle.dill_base.specs.declared.errno.Front.TheVariants as fronts
use Rattle.dill_ws.specs.Handshakes.{client_front, server_front}
use Rattle.dill_rules.specs.declared.coroutine.Mode.TheVariants.{Running}
use Rattle.dill_rules.specs.declared.thing.Thing.{Thing}
use Rattle.dill_rules.specs.declared.thing.Thing.TheVariants as things
use Rattle.dill_rules.specs.Links.{Link, fresh_link, with_stack}
use Rattle.dill_rules.specs.declared.link.Sort.TheVariants.{Stream}
use Rattle.dill_rules.specs.Refusals.{refuse}
use Rattle.dill_rules.specs.World.{World, opening}
use Rattle.dill_rows.specs.Full.{of_one, each}
use Rattle.dill_rows.specs.Play.{Item, Does, Tries, Text, Play, playing, first_of}
use Rattle.dill_rows.specs.Playing.{plain, zeros, played, replayed, idle, place, connected}
use Rattle.dill_rows.specs.Runs.{Run, Outside, listed, clock, step, begun, prints, does}
use Rattle.dill_rows.specs.Sockets.{detaches}
use Rattle.dill_rows.specs.Faults.{gives}
use Rattle.dill_rows.specs.Orders.{expires, chain}
use Rattle.dill_rows.specs.Leaving.{cancelled_leavers, four_more}

-- an end by `bye` over a client of WebSocket that receives first, or doesn't, and is left
abbrev pub leaves_bye : List Item → ℕ → List ℕ → Text
leaves_bye items program args = plain 0 (Does (calls.TcpConnect (place 9) Never) ∷ Does (calls.WsAttachNohttp 1 true true) ∷ items ++ Does (calls.TermAttach 2 (codes "bye")) ∷ Tries (calls.TermDetach 3 Never) ∷ Tries (calls.Hclose 3) ∷ [])

-- The close frame of the layer below is met while the end above is left, or was before: what the detach sends still goes, and the stack is released.
pub record CloseFrameMet : Type 0 where
  pub meanwhile : does (replayed (connected (idle 0 ∷ Took 9 ∷ Came (136 ∷ 0 ∷ []) ∷ [])) 50 (leaves_bye [])) (codes "1 start =0" ∷ codes "1 tcp_connect =1" ∷ codes "moved 1 2" ∷ codes "1 ws_attach_nohttp =2" ∷ codes "moved 2 3" ∷ codes "1 term_attach =3" ∷ codes "freed 3" ∷ codes "1 term_detach EPIPE" ∷ codes "1 hclose EBADF" ∷ codes "1 end ok" ∷ codes "summary status=0 errno=none turns=6 rounds=3 closing=0 made=3 gone=3 lacks=0" ∷ []) (codes "wait 0" ∷ codes "wait 0" ∷ codes "connect 1" ∷ codes "finish 1" ∷ codes "wait 0" ∷ codes "write 1 #9:818300000000627965" ∷ codes "read 1" ∷ codes "close 1" ∷ []) ≡ true
  pub before : does (replayed (connected (idle 0 ∷ Came (136 ∷ 0 ∷ []) ∷ idle 0 ∷ Took 9 ∷ [])) 50 (leaves_bye (Tries (calls.Mrecv 2 9 Never) ∷ []))) (codes "1 start =0" ∷ codes "1 tcp_connect =1" ∷ codes "moved 1 2" ∷ codes "1 ws_attach_nohttp =2" ∷ codes "1 mrecv EPIPE" ∷ codes "moved 2 3" ∷ codes "1 term_attach =3" ∷ codes "freed 3" ∷ codes "1 term_detach EPIPE" ∷ codes "1 hclose EBADF" ∷ codes "1 end ok" ∷ codes "summary status=0 errno=none turns=7 rounds=4 closing=0 made=3 gone=3 lacks=0" ∷ []) (codes "wait 0" ∷ codes "wait 0" ∷ codes "connect 1" ∷ codes "finish 1" ∷ codes "wait 0" ∷ codes "read 1" ∷ codes "wait 0" ∷ codes "write 1 #9:818300000000627965" ∷ codes "close 1" ∷ []) ≡ true

-- a client's head by its first line, its two lists and its key's name
abbrev pub head_by : List ℕ → List ℕ → List ℕ → List ℕ
head_by first lists name = first ++ codes "\r\nhost: h\r\n" ++ lists ++ name ++ codes ": dGhlIHNhbXBsZSBub25jZQ==\r\nSEC-WEBSOCKET-VERSION: 13\r\n\r\n"

abbrev pub usual_lists : List ℕ
usual_lists = codes "Upgrade: websocket\r\nConnection: Upgrade\r\n"

abbrev pub any_case : List ℕ
any_case = head_by (codes "GET / HTTP/1.1") (codes "UPGRADE: a,\tWebSocket \r\nconnection: UPGRADE\r\n") (codes "sec-WebSocket-KEY")

-- a server's head by its first line and its lists, for the same key
abbrev pub answer_by : List ℕ → List ℕ → List ℕ
answer_by first lists = first ++ codes "\r\n" ++ lists ++ codes "sec-websocket-ACCEPT: s3pPLMBiTxaQ9kYGzzhZRbK+xOo=\r\n\r\n"

abbrev pub same_accept : List ℕ
same_accept = codes "s3pPLMBiTxaQ9kYGzzhZRbK+xOo="

abbrev pub answer_in_any_case : List ℕ
answer_in_any_case = answer_by (codes "HTTP/1.1 101 ok") (codes "UPGRADE: WebSocket\r\nconnection: UPGRADE\r\n")

-- Names of fields, `websocket` and `upgrade` are compared without case, the method and the version as they stand.
pub record HeadsWithoutCase : Type 0 where
  pub names : client_front any_case ≡ asked.Whole (codes "dGhlIHNhbXBsZSBub25jZQ==") (length any_case)
  pub method : client_front (head_by (codes "get / HTTP/1.1") usual_lists (codes "Sec-WebSocket-Key")) ≡ asked.Fault Eproto
  pub version : client_front (head_by (codes "GET / http/1.1") usual_lists (codes "Sec-WebSocket-Key")) ≡ asked.Fault Eproto
  pub answer : server_front same_accept answer_in_any_case ≡ fronts.Whole 0 (length answer_in_any_case) (length answer_in_any_case)
  pub answer_version : server_front same_accept (answer_by (codes "http/1.1 101 ok") usual_lists) ≡ fronts.Fault Eproto
  pub other_item : client_front (head_by (codes "GET / HTTP/1.1") (codes "Upgrade: web socket\r\nConnection: Upgrade\r\n") (codes "Sec-WebSocket-Key")) ≡ asked.Fault Eproto

-- coroutine 2 lives in a bundle of coroutine 1, which is closing or isn't
abbrev pub forest : Bool → Scopes
forest closing = record {
  homes = record { who = 1; bundle = 0 } ∷ record { who = 2; bundle = 1 } ∷ [];
  bundles = record { name = 0; owner = None; closing = false } ∷ record { name = 1; owner = Some 1; closing = closing } ∷ [];
}

-- this number is a stack of this coroutine, on the link of the same number
abbrev pub socket_of : ℕ → ℕ → Entry Thing
socket_of owner number = record { number = number; thing = things.Socket number; owner = owner }

-- a link with these layers
abbrev pub layered : ℕ → (Held → Held) → Link
layered number layers = with_stack layers (fresh_link number Stream)

-- six stacks of this coroutine: bytes, PREFIX, SUFFIX, an end over PREFIX, HTTP and WebSocket
abbrev pub six_stacks : Bool → ℕ → World Play
six_stacks closing owner = record (opening (first_of (plain 0 [])) zeros) {
  coroutines = record { number = 1; body = first_of (plain 0 []); mode = Running } ∷ record { number = 2; body = first_of (plain 0 []); mode = Running } ∷ [];
  scopes = forest closing;
  handles = record { entries = map (socket_of owner) (1 ∷ 2 ∷ 3 ∷ 4 ∷ 5 ∷ 6 ∷ []); kept = 0; last = 6 };
  links = record {
    all = layered 1 (λ s. s) ∷ layered 2 (attached (layer.Prefix big2)) ∷ layered 3 (attached (layer.Suffix (codes "x"))) ∷ layered 4 (λ s. attached (layer.Term []) (attached (layer.Prefix big2) s)) ∷ layered 5 (attached layer.Http) ∷ layered 6 (attached (layer.Ws Client true)) ∷ [];
    last = 6;
    kept = 0;
  };
  last_coroutine = 2;
  last_bundle = 1;
}

-- what is refused of each of these calls of coroutine 2
abbrev pub refused_of_two : World Play → List Call → List (Option Errno)
refused_of_two w all = map (refuse (playing of_one) w 2 (first_of (plain 0 []))) all

-- the calls that give a stack up
abbrev pub give_up : List Call
give_up = calls.TcpClose 1 Never ∷ calls.PrefixDetach 2 ∷ calls.SuffixDetach 3 ∷ calls.TermDetach 4 Never ∷ calls.HttpDetach 5 Never ∷ calls.WsDetach 6 0 [] Never ∷ []

-- the attaches
abbrev pub attach : List Call
attach = calls.PrefixAttach 1 2 true ∷ calls.SuffixAttach 1 (codes "x") ∷ calls.HttpAttach 1 ∷ calls.WsAttachClient 1 true (codes "/") (codes "h") Never ∷ calls.WsAttachServer 1 true Never ∷ calls.WsAttachNohttp 1 true true ∷ calls.TermAttach 2 [] ∷ []

-- the other calls that take a handle
abbrev pub take : List Call
take = calls.Hown 1 ∷ calls.Hclose 1 ∷ []

-- A cancelled caller that would give up another's stack is busy; by the other calls it hears that it is cancelled.
pub record AnothersStack : Type 0 where
  pub given_up : refused_of_two (six_stacks true 1) give_up ≡ each (Some Ebusy) give_up
  pub attached_to : refused_of_two (six_stacks true 1) attach ≡ each (Some Ecanceled) attach
  pub taken : refused_of_two (six_stacks true 1) take ≡ each (Some Ecanceled) take
  pub own_given_up : refused_of_two (six_stacks true 2) give_up ≡ each None give_up
  pub own_attached_to : refused_of_two (six_stacks true 2) attach ≡ each (Some Ecanceled) attach
  pub own_taken : refused_of_two (six_stacks true 2) take ≡ each None take
  pub not_cancelled : refused_of_two (six_stacks false 1) (give_up ++ attach ++ take) ≡ each None (give_up ++ attach ++ take)

abbrev pub is_moved : Note → Bool
is_moved (Moved number next) = true
is_moved note = false

-- no thing has a new number behind one that is released
abbrev pub is_moved_first : List Note → Bool
is_moved_first [] = true
is_moved_first (Freed number ∷ notes) = not (list_any is_moved notes) && is_moved_first notes
is_moved_first (note ∷ notes) = is_moved_first notes

-- so it is in each of so many steps
abbrev pub each_step : {N : Type 0} → (ℕ → List ℕ → Text) → Outside N → ℕ → Run Play N → Bool
each_step table outside zero r = true
each_step table outside (suc k) r = is_moved_first r.state.world.notes && each_step table outside k (step (playing table) outside true 1000000000 r)

abbrev pub moves_first : {N : Type 0} → Outside N → N → ℕ → (ℕ → List ℕ → Text) → Bool
moves_first outside net steps table = each_step table outside steps (begun (first_of (table 0 [])) zeros net)

-- In no step of these runs is a thing released before another has a new number.
pub record MovedFirst : Type 0 where
  pub gifts : moves_first clock 0 50 gives ≡ true
  pub endings : moves_first clock 0 50 chain ≡ true
  pub detach : moves_first listed (idle 0 ∷ idle 0 ∷ Done ∷ idle 0 ∷ Done ∷ Done ∷ Woke 0 (record { link = 1; read = true; write = false } ∷ []) ∷ Took 2 ∷ NotYet ∷ idle 10 ∷ []) 60 detaches ≡ true
  pub expiry : moves_first listed (connected (idle 0 ∷ Done ∷ Done ∷ idle 0 ∷ Done ∷ Done ∷ idle 0 ∷ Done ∷ Done ∷ Done ∷ NotYet ∷ NotYet ∷ NotYet ∷ idle 9 ∷ [])) 80 expires ≡ true
  pub leavers : moves_first listed (connected four_more) 120 cancelled_leavers ≡ true

abbrev pub takes_awaited : ℕ → List ℕ → Text
takes_awaited zero args = plain 0 (Does calls.Bundle ∷ Does (calls.BundleGo 1 1 []) ∷ Does (calls.BundleWait 1 Never) ∷ Does (calls.Hown 1) ∷ Does calls.Chmake ∷ Tries (calls.Chrecv 3 1 (At 0)) ∷ Does (calls.Hown 3) ∷ [])
takes_awaited program args = plain 0 []

-- By its own call a coroutine is pending no more: it may take what it waited for until then.
pub record TakesAwaited : Type 0 where
  pub run : prints (played 40 takes_awaited) (codes "1 start =0" ∷ codes "1 bundle =1" ∷ codes "1 bundle_go =0" ∷ codes "2 start =0" ∷ codes "2 end ok" ∷ codes "1 bundle_wait =0" ∷ codes "moved 1 2" ∷ codes "1 hown =2" ∷ codes "1 chmake =3,4" ∷ codes "1 chrecv ETIMEDOUT" ∷ codes "moved 3 5" ∷ codes "1 hown =5" ∷ codes "1 end ok" ∷ codes "freed 2" ∷ codes "freed 5" ∷ codes "freed 4" ∷ codes "summary status=0 errno=none turns=9 rounds=1 closing=0 made=5 gone=5 lacks=0" ∷ []) ≡ true
