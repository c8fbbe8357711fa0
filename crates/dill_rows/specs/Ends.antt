-- Worked runs of ends that are met, fail or break a direction, and of what is refused from then on.
use Rattle.std.specs.Prelude.{◌≡◌, true, false, ℕ, List, [], ◌∷◌, ◌++◌, replicate, codes, None}
use Rattle.dill_base.specs.declared.deadline.Deadline.TheVariants.{Never, At}
use Rattle.dill_base.specs.declared.errno.Errno.TheVariants.{Emsgsize}
use Rattle.dill_calls.specs.declared.call.Call.TheVariants as calls
use Rattle.dill_kernel.specs.declared.replies.KernelFault.TheVariants as faults
use Rattle.dill_kernel.specs.declared.replies.KernelReply.TheVariants.{NotYet, Came, Took, End, Failed}
use Rattle.dill_ws.specs.declared.side.Side.TheVariants.{Client}
use Rattle.dill_stack.specs.declared.layer.Layer.TheVariants as layer
use Rattle.dill_stack.specs.declared.want.Want.TheVariants.{Message}
use Rattle.dill_stack.specs.declared.want.ReadOut.TheVariants.{Need, Fault}
use Rattle.dill_stack.specs.declared.parting.Parting.TheVariants as parting
use Rattle.dill_stack.specs.Held.{Held, came}
use Rattle.dill_stack.specs.Refusals.{detach_fault}
use Rattle.dill_stack.specs.Sending.{took}
use Rattle.dill_stack.specs.RowTerms.{attached, leaves, reads, left_said, with_bytes}
use Rattle.relay_trace.specs.Lines.{sized}
use Rattle.dill_rows.specs.Play.{Item, Does, Tries, Text}
use Rattle.dill_rows.specs.Playing.{plain, replayed, idle, place, connected}
use Rattle.dill_rows.specs.Runs.{does}

-- an end by `b` over PREFIX, and what is done with it
abbrev pub over_end : List Item → ℕ → List ℕ → Text
over_end items program args = plain 0 (Does (calls.TcpConnect (place 9) Never) ∷ Does (calls.PrefixAttach 1 2 true) ∷ Does (calls.TermAttach 2 (codes "b")) ∷ items)

abbrev pub meets_lower : ℕ → List ℕ → Text
meets_lower = over_end (Does (calls.TermAttach 3 (codes "a")) ∷ Tries (calls.TermDetach 4 Never) ∷ Tries (calls.Hclose 4) ∷ [])

abbrev pub met_lower : ℕ → List ℕ → Text
met_lower = over_end (Tries (calls.Mrecv 3 9 Never) ∷ Does (calls.TermAttach 3 (codes "a")) ∷ Tries (calls.TermDetach 4 Never) ∷ Tries (calls.Hclose 4) ∷ [])

-- The end of the lower of two ends is met while the upper one is left, or was before: what the detach sends still goes, and the stack is released.
pub record LowerEndMet : Type 0 where
  pub meanwhile : does (replayed (connected (idle 0 ∷ Took 3 ∷ Came (0 ∷ 1 ∷ 98 ∷ []) ∷ [])) 50 meets_lower) (codes "1 start =0" ∷ codes "1 tcp_connect =1" ∷ codes "moved 1 2" ∷ codes "1 prefix_attach =2" ∷ codes "moved 2 3" ∷ codes "1 term_attach =3" ∷ codes "moved 3 4" ∷ codes "1 term_attach =4" ∷ codes "freed 4" ∷ codes "1 term_detach EPIPE" ∷ codes "1 hclose EBADF" ∷ codes "1 end ok" ∷ codes "summary status=0 errno=none turns=7 rounds=3 closing=0 made=4 gone=4 lacks=0" ∷ []) (codes "wait 0" ∷ codes "wait 0" ∷ codes "connect 1" ∷ codes "finish 1" ∷ codes "wait 0" ∷ codes "write 1 #3:000161" ∷ codes "read 1" ∷ codes "close 1" ∷ []) ≡ true
  pub before : does (replayed (connected (idle 0 ∷ Came (0 ∷ 1 ∷ 98 ∷ []) ∷ idle 0 ∷ Took 3 ∷ [])) 50 met_lower) (codes "1 start =0" ∷ codes "1 tcp_connect =1" ∷ codes "moved 1 2" ∷ codes "1 prefix_attach =2" ∷ codes "moved 2 3" ∷ codes "1 term_attach =3" ∷ codes "1 mrecv EPIPE" ∷ codes "moved 3 4" ∷ codes "1 term_attach =4" ∷ codes "freed 4" ∷ codes "1 term_detach EPIPE" ∷ codes "1 hclose EBADF" ∷ codes "1 end ok" ∷ codes "summary status=0 errno=none turns=8 rounds=4 closing=0 made=4 gone=4 lacks=0" ∷ []) (codes "wait 0" ∷ codes "wait 0" ∷ codes "connect 1" ∷ codes "finish 1" ∷ codes "wait 0" ∷ codes "read 1" ∷ codes "wait 0" ∷ codes "write 1 #3:000161" ∷ codes "close 1" ∷ []) ≡ true

abbrev pub end_fails : ℕ → List ℕ → Text
end_fails = over_end (Tries (calls.TermDone 3 Never) ∷ Tries (calls.Msend 3 (codes "x") Never) ∷ Tries (calls.TermDone 3 Never) ∷ Tries (calls.Mrecv 3 9 Never) ∷ [])

-- an HTTP socket, and what is done with it
abbrev pub on_head : List Item → ℕ → List ℕ → Text
on_head items program args = plain 0 (Does (calls.TcpConnect (place 9) Never) ∷ Does (calls.HttpAttach 1) ∷ items)

abbrev pub line_fails : ℕ → List ℕ → Text
line_fails = on_head (Tries (calls.HttpSendrequest 2 (codes "GET") (codes "/") Never) ∷ Tries (calls.HttpSendrequest 2 (codes "GET") (codes "/") Never) ∷ Tries (calls.HttpSendfield 2 (codes "a") (codes "b") Never) ∷ Tries (calls.HttpDone 2 Never) ∷ [])

abbrev pub head_fails : ℕ → List ℕ → Text
head_fails = on_head (Tries (calls.HttpDone 2 Never) ∷ Tries (calls.HttpSendrequest 2 (codes "GET") (codes "/") Never) ∷ Tries (calls.HttpDone 2 Never) ∷ [])

-- An end whose write failed is done, and a first line whose write failed was sent.
pub record FailedEnds : Type 0 where
  pub term : does (replayed (connected (idle 0 ∷ Failed faults.Other ∷ [])) 50 end_fails) (codes "1 start =0" ∷ codes "1 tcp_connect =1" ∷ codes "moved 1 2" ∷ codes "1 prefix_attach =2" ∷ codes "moved 2 3" ∷ codes "1 term_attach =3" ∷ codes "1 term_done ECONNRESET" ∷ codes "1 msend EPIPE" ∷ codes "1 term_done EPIPE" ∷ codes "1 mrecv ECONNRESET" ∷ codes "1 end ok" ∷ codes "freed 3" ∷ codes "summary status=0 errno=none turns=8 rounds=3 closing=0 made=3 gone=3 lacks=0" ∷ []) (codes "wait 0" ∷ codes "wait 0" ∷ codes "connect 1" ∷ codes "finish 1" ∷ codes "wait 0" ∷ codes "write 1 #3:000162" ∷ codes "close 1" ∷ []) ≡ true
  pub line : does (replayed (connected (idle 0 ∷ Failed faults.Other ∷ [])) 50 line_fails) (codes "1 start =0" ∷ codes "1 tcp_connect =1" ∷ codes "moved 1 2" ∷ codes "1 http_attach =2" ∷ codes "1 http_sendrequest ECONNRESET" ∷ codes "1 http_sendrequest EINVAL" ∷ codes "1 http_sendfield ECONNRESET" ∷ codes "1 http_done ECONNRESET" ∷ codes "1 end ok" ∷ codes "freed 2" ∷ codes "summary status=0 errno=none turns=7 rounds=3 closing=0 made=2 gone=2 lacks=0" ∷ []) (codes "wait 0" ∷ codes "wait 0" ∷ codes "connect 1" ∷ codes "finish 1" ∷ codes "wait 0" ∷ (codes "write 1 " ++ sized (codes "GET / HTTP/1.1\r\n")) ∷ codes "close 1" ∷ []) ≡ true
  pub head : does (replayed (connected (idle 0 ∷ Failed faults.Other ∷ [])) 50 head_fails) (codes "1 start =0" ∷ codes "1 tcp_connect =1" ∷ codes "moved 1 2" ∷ codes "1 http_attach =2" ∷ codes "1 http_done ECONNRESET" ∷ codes "1 http_sendrequest EPIPE" ∷ codes "1 http_done EPIPE" ∷ codes "1 end ok" ∷ codes "freed 2" ∷ codes "summary status=0 errno=none turns=6 rounds=3 closing=0 made=2 gone=2 lacks=0" ∷ []) (codes "wait 0" ∷ codes "wait 0" ∷ codes "connect 1" ∷ codes "finish 1" ∷ codes "wait 0" ∷ codes "write 1 #2:0d0a" ∷ codes "close 1" ∷ []) ≡ true

abbrev pub line_is_late : ℕ → List ℕ → Text
line_is_late = on_head (Tries (calls.HttpSendrequest 2 (codes "GET") (codes "/") (At 0)) ∷ Tries (calls.HttpSendfield 2 (codes "a") (codes "b") Never) ∷ Does (calls.HttpSendrequest 2 (codes "GET") (codes "/") Never) ∷ [])

-- A first line that is given up before a byte of it has gone wasn't sent.
pub record LateLines : Type 0 where
  pub run : does (replayed (connected (idle 0 ∷ NotYet ∷ idle 0 ∷ Took 16 ∷ [])) 50 line_is_late) (codes "1 start =0" ∷ codes "1 tcp_connect =1" ∷ codes "moved 1 2" ∷ codes "1 http_attach =2" ∷ codes "1 http_sendrequest ETIMEDOUT" ∷ codes "1 http_sendfield EINVAL" ∷ codes "1 http_sendrequest =0" ∷ codes "1 end ok" ∷ codes "freed 2" ∷ codes "summary status=0 errno=none turns=6 rounds=4 closing=0 made=2 gone=2 lacks=0" ∷ []) (codes "wait 0" ∷ codes "wait 0" ∷ codes "connect 1" ∷ codes "finish 1" ∷ codes "wait 0" ∷ (codes "write 1 " ++ sized (codes "GET / HTTP/1.1\r\n")) ∷ codes "wait 0" ∷ (codes "write 1 " ++ sized (codes "GET / HTTP/1.1\r\n")) ∷ codes "close 1" ∷ []) ≡ true

abbrev pub attaches : ℕ → List ℕ → Text
attaches program args = plain 0 (Does (calls.TcpConnect (place 9) Never) ∷ Tries (calls.Bsend 1 (codes "ab") (At 5)) ∷ Tries (calls.PrefixAttach 1 2 true) ∷ Tries (calls.SuffixAttach 1 (codes "x")) ∷ Tries (calls.HttpAttach 1) ∷ Tries (calls.WsAttachNohttp 1 true true) ∷ Tries (calls.WsAttachServer 1 true Never) ∷ Tries (calls.WsAttachClient 1 true (codes "/") (codes "h") Never) ∷ [])

abbrev pub attaches_end : ℕ → List ℕ → Text
attaches_end program args = plain 0 (Does (calls.TcpConnect (place 9) Never) ∷ Does (calls.PrefixAttach 1 2 true) ∷ Tries (calls.Mrecv 2 9 Never) ∷ Tries (calls.TermAttach 2 []) ∷ Tries (calls.PrefixDetach 2) ∷ [])

-- On a stack of which one direction is broken nothing can be attached, and a detach releases it.
pub record BrokenAttaches : Type 0 where
  pub sending : does (replayed (connected (idle 0 ∷ Took 1 ∷ idle 0 ∷ NotYet ∷ idle 5 ∷ [])) 50 attaches) (codes "1 start =0" ∷ codes "1 tcp_connect =1" ∷ codes "1 bsend ETIMEDOUT" ∷ codes "1 prefix_attach ECONNRESET" ∷ codes "1 suffix_attach ECONNRESET" ∷ codes "1 http_attach ECONNRESET" ∷ codes "1 ws_attach_nohttp ECONNRESET" ∷ codes "1 ws_attach_server ECONNRESET" ∷ codes "1 ws_attach_client ECONNRESET" ∷ codes "1 end ok" ∷ codes "freed 1" ∷ codes "summary status=0 errno=none turns=9 rounds=5 closing=0 made=1 gone=1 lacks=0" ∷ []) (codes "wait 0" ∷ codes "wait 0" ∷ codes "connect 1" ∷ codes "finish 1" ∷ codes "wait 0" ∷ codes "write 1 #2:6162" ∷ codes "wait 0" ∷ codes "write 1 #1:62" ∷ codes "wait until 5" ∷ codes "close 1" ∷ []) ≡ true
  pub receiving : does (replayed (connected (idle 0 ∷ Came (0 ∷ 5 ∷ 104 ∷ []) ∷ idle 0 ∷ End ∷ [])) 50 attaches_end) (codes "1 start =0" ∷ codes "1 tcp_connect =1" ∷ codes "moved 1 2" ∷ codes "1 prefix_attach =2" ∷ codes "1 mrecv EPROTO" ∷ codes "1 term_attach ECONNRESET" ∷ codes "freed 2" ∷ codes "1 prefix_detach ECONNRESET" ∷ codes "1 end ok" ∷ codes "summary status=0 errno=none turns=6 rounds=4 closing=0 made=2 gone=2 lacks=0" ∷ []) (codes "wait 0" ∷ codes "wait 0" ∷ codes "connect 1" ∷ codes "finish 1" ∷ codes "wait 0" ∷ codes "read 1" ∷ codes "wait 0" ∷ codes "read 1" ∷ codes "close 1" ∷ []) ≡ true

-- a client of WebSocket to which a fragment came that is longer than what a detach drops, and was joined
abbrev pub joins_much : Held
joins_much = reads (Message 20000) (attached (layer.Ws Client true) (with_bytes (1 ∷ 126 ∷ 64 ∷ 1 ∷ replicate 16385 97)))

-- its close frame has gone
abbrev pub parts_from_much : Held
parts_from_much = took 6 (leaves (parting.Close 0 []) joins_much)

-- A detach isn't refused for what an earlier receive has joined; the next frame of that message is too much.
pub record JoinedTooMuch : Type 0 where
  pub not_at_entry : detach_fault (parting.Close 0 []) false joins_much ≡ None
  pub waits : left_said parts_from_much ≡ Need
  pub next_frame : left_said (came (128 ∷ 0 ∷ []) parts_from_much) ≡ Fault Emsgsize
