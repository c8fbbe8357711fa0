-- Worked answers of calls, each with the lines of its run up to the end of `main`.
use Rattle.std.specs.Prelude.{◌≡◌, ◌&&◌, true, Bool, ℕ, zero, suc, List, [], ◌∷◌, ◌++◌, length, take, drop, codes, bytes_eq}
use Rattle.dill_base.specs.declared.deadline.Deadline.TheVariants.{Never, At}
use Rattle.dill_calls.specs.declared.call.Call.TheVariants as calls
use Rattle.dill_calls.specs.declared.lists.Arg.TheVariants.{Show, Give}
use Rattle.dill_calls.specs.declared.lists.Clause.TheVariants.{Recv}
use Rattle.dill_kernel.specs.declared.replies.KernelFault.TheVariants as faults
use Rattle.dill_kernel.specs.declared.replies.KernelReply.{KernelReply}
use Rattle.dill_kernel.specs.declared.replies.KernelReply.TheVariants.{Done, NotYet, Came, Took, End, Failed}
use Rattle.dill_rows.specs.Bounds.{on_link}
use Rattle.dill_rows.specs.LongInput.{many, endless}
use Rattle.dill_rows.specs.Play.{Item, Does, Tries, Text}
use Rattle.dill_rows.specs.Playing.{plain, nth, played, replayed, idle, place, connected}
use Rattle.dill_rows.specs.Runs.{Run, is_settled, text}

-- the first lines of a run
abbrev pub opens : {V N : Type 0} → Run V N → List (List ℕ) → Bool
opens r lines = is_settled r && bytes_eq (take (length (text lines)) r.out) (text lines)

-- the first lines of a run with this table
abbrev pub lines_of : (ℕ → List ℕ → Text) → List (List ℕ) → Bool
lines_of table lines = opens (played 60 table) (codes "1 start =0" ∷ lines)

-- a connection, and what is done with it over these replies
abbrev pub linked : List Item → List KernelReply → List (List ℕ) → Bool
linked items replies lines = opens (replayed (connected replies) 80 (on_link items)) (codes "1 start =0" ∷ codes "1 tcp_connect =1" ∷ lines)

-- the same with an HTTP socket
abbrev pub headed : List Item → List KernelReply → List (List ℕ) → Bool
headed items replies lines = linked (Does (calls.HttpAttach 1) ∷ items) replies (codes "moved 1 2" ∷ codes "1 http_attach =2" ∷ lines)

-- the same with a client of WebSocket
abbrev pub framed : List Item → List KernelReply → List (List ℕ) → Bool
framed items replies lines = linked (Does (calls.WsAttachNohttp 1 true true) ∷ items) replies (codes "moved 1 2" ∷ codes "1 ws_attach_nohttp =2" ∷ lines)

-- the same with an end by no bytes over PREFIX
abbrev pub ended : List Item → List KernelReply → List (List ℕ) → Bool
ended items replies lines = linked (Does (calls.PrefixAttach 1 2 true) ∷ Does (calls.TermAttach 2 []) ∷ items) replies (codes "moved 1 2" ∷ codes "1 prefix_attach =2" ∷ codes "moved 2 3" ∷ codes "1 term_attach =3" ∷ lines)

abbrev pub waits_inside : ℕ → List ℕ → Text
waits_inside zero args = plain 0 (Does calls.Bundle ∷ Does (calls.BundleGo 1 1 (Show 1 ∷ [])) ∷ Tries (calls.BundleWait 1 (At 0)) ∷ Does (calls.BundleWait 1 Never) ∷ [])
waits_inside program args = plain 1 (Tries (calls.BundleWait (nth args 0) Never) ∷ [])

abbrev pub gives_awaited : ℕ → List ℕ → Text
gives_awaited zero args = plain 0 (Does calls.Chmake ∷ Does (calls.Go 1 (Show 2 ∷ [])) ∷ Does calls.Yield ∷ Tries (calls.Go 1 (Give 2 ∷ [])) ∷ Tries (calls.Go 1 (Give 1 ∷ [])) ∷ [])
gives_awaited program args = plain 1 (Does (calls.Chrecv (nth args 0) 1 Never) ∷ [])

abbrev pub gives_late : ℕ → List ℕ → Text
gives_late zero args = plain 0 (Does calls.Bundle ∷ Does (calls.BundleGo 1 1 []) ∷ Does (calls.Go 2 []) ∷ Does calls.Yield ∷ Does (calls.Hclose 1) ∷ [])
gives_late (suc zero) args = record { count = 0; body = Does (calls.Hmake 256 0) ∷ Does (calls.Msleep Never) ∷ []; last = Tries (calls.Msleep Never) ∷ Tries (calls.Msleep Never) ∷ [] }
gives_late (suc (suc zero)) args = plain 0 (Does calls.Yield ∷ Tries (calls.Go 3 (Give 3 ∷ [])) ∷ [])
gives_late program args = plain 1 []

abbrev pub chooses_late : ℕ → List ℕ → Text
chooses_late zero args = plain 0 (Does calls.Chmake ∷ Does calls.Bundle ∷ Does (calls.BundleGo 3 1 []) ∷ Does calls.Yield ∷ Does (calls.Hclose 3) ∷ [])
chooses_late program args = plain 0 (Tries (calls.Choose Never (Recv 2 1 ∷ [])) ∷ Tries (calls.Choose (At 0) (Recv 2 1 ∷ [])) ∷ [])

-- Waits inside a bundle and in time, gifts that are awaited or a cancelled coroutine's, and choices that are cancelled.
pub record AnswersOfScopes : Type 0 where
  pub waits : lines_of waits_inside (codes "1 bundle =1" ∷ codes "1 bundle_go =0" ∷ codes "2 start =0" ∷ codes "1 bundle_wait ETIMEDOUT" ∷ codes "2 bundle_wait EBUSY" ∷ codes "2 end ok" ∷ codes "1 bundle_wait =0" ∷ codes "1 end ok" ∷ codes "freed 1" ∷ []) ≡ true
  pub awaited_gift : lines_of gives_awaited (codes "1 chmake =1,2" ∷ codes "1 go =3" ∷ codes "2 start =0" ∷ codes "1 yield =0" ∷ codes "1 go EBUSY" ∷ codes "moved 1 5" ∷ codes "1 go =4" ∷ codes "1 end ok" ∷ []) ≡ true
  pub cancelled_gift : lines_of gives_late (codes "1 bundle =1" ∷ codes "1 bundle_go =0" ∷ codes "2 start =0" ∷ codes "1 go =2" ∷ codes "3 start =0" ∷ codes "2 hmake =3" ∷ codes "1 yield =0" ∷ codes "3 yield =0" ∷ codes "2 msleep ECANCELED" ∷ codes "3 go EBUSY" ∷ codes "3 end ok" ∷ []) ≡ true
  pub choices : lines_of chooses_late (codes "1 chmake =1,2" ∷ codes "1 bundle =3" ∷ codes "1 bundle_go =0" ∷ codes "2 start =0" ∷ codes "1 yield =0" ∷ codes "2 choose ECANCELED" ∷ codes "2 choose ECANCELED" ∷ codes "2 end ok" ∷ codes "freed 3" ∷ codes "1 hclose =0" ∷ codes "1 end ok" ∷ codes "freed 2" ∷ codes "freed 1" ∷ []) ≡ true

-- A link's end comes once, and a close of what is broken or fails releases it.
pub record AnswersOfLinks : Type 0 where
  pub done_twice : linked (Does (calls.TcpDone 1 Never) ∷ Tries (calls.TcpDone 1 Never) ∷ []) (idle 0 ∷ Done ∷ []) (codes "1 tcp_done =0" ∷ codes "1 tcp_done EPIPE" ∷ codes "1 end ok" ∷ codes "freed 1" ∷ []) ≡ true
  pub closed_broken : linked (Tries (calls.Bsend 1 (codes "ab") (At 5)) ∷ Tries (calls.TcpClose 1 Never) ∷ Tries (calls.Hquery 1 4) ∷ []) (idle 0 ∷ Took 1 ∷ idle 0 ∷ NotYet ∷ idle 5 ∷ []) (codes "1 bsend ETIMEDOUT" ∷ codes "freed 1" ∷ codes "1 tcp_close ECONNRESET" ∷ codes "1 hquery EBADF" ∷ codes "1 end ok" ∷ []) ≡ true
  pub close_fails : linked (Tries (calls.TcpClose 1 Never) ∷ []) (idle 0 ∷ Failed faults.Reset ∷ []) (codes "freed 1" ∷ codes "1 tcp_close ECONNRESET" ∷ codes "1 end ok" ∷ []) ≡ true
  pub close_fails_late : linked (Tries (calls.TcpClose 1 Never) ∷ []) (idle 0 ∷ Done ∷ Failed faults.Reset ∷ []) (codes "freed 1" ∷ codes "1 tcp_close ECONNRESET" ∷ codes "1 end ok" ∷ []) ≡ true

-- a socket that is given to a child, which leaves it and is cancelled
abbrev pub leaves_head : ℕ → List ℕ → Text
leaves_head zero args = plain 0 (Does (calls.TcpConnect (place 9) Never) ∷ Does (calls.HttpAttach 1) ∷ Does calls.Bundle ∷ Does (calls.BundleGo 3 1 (Give 2 ∷ [])) ∷ Does calls.Yield ∷ Does (calls.Hclose 3) ∷ [])
leaves_head program args = plain 1 (Tries (calls.HttpDetach (nth args 0) Never) ∷ [])

-- a socket at which a child receives
abbrev pub leaves_awaited : ℕ → List ℕ → Text
leaves_awaited zero args = plain 0 (Does (calls.TcpConnect (place 9) Never) ∷ Does (calls.SuffixAttach 1 (codes "x")) ∷ Does (calls.Go 1 (Show 2 ∷ [])) ∷ Does calls.Yield ∷ Tries (calls.SuffixDetach 2) ∷ Does (calls.Hquery 2 5) ∷ [])
leaves_awaited program args = plain 1 (Does (calls.Mrecv (nth args 0) 1 Never) ∷ [])

-- Detaches of what is broken, fails, is too long, ends or is cancelled release the stack; one that is refused doesn't.
pub record AnswersOfDetaches : Type 0 where
  pub term_broken : ended (Tries (calls.Mrecv 3 1 Never) ∷ Tries (calls.TermDetach 3 Never) ∷ []) (idle 0 ∷ Came (0 ∷ 2 ∷ []) ∷ []) (codes "1 mrecv EMSGSIZE" ∷ codes "freed 3" ∷ codes "1 term_detach ECONNRESET" ∷ codes "1 end ok" ∷ []) ≡ true
  pub term_fails : ended (Tries (calls.TermDetach 3 Never) ∷ []) (idle 0 ∷ Failed faults.Other ∷ []) (codes "freed 3" ∷ codes "1 term_detach ECONNRESET" ∷ codes "1 end ok" ∷ []) ≡ true
  pub term_too_long : ended (Tries (calls.TermDetach 3 Never) ∷ []) (idle 0 ∷ Took 2 ∷ Came (64 ∷ 1 ∷ []) ∷ []) (codes "freed 3" ∷ codes "1 term_detach EMSGSIZE" ∷ codes "1 end ok" ∷ []) ≡ true
  pub ws_broken : framed (Tries (calls.Mrecv 2 9 Never) ∷ Tries (calls.WsDetach 2 0 [] Never) ∷ []) (idle 0 ∷ Came (131 ∷ 0 ∷ []) ∷ []) (codes "1 mrecv EPROTO" ∷ codes "freed 2" ∷ codes "1 ws_detach ECONNRESET" ∷ codes "1 end ok" ∷ []) ≡ true
  pub ws_fails : framed (Tries (calls.WsDetach 2 0 [] Never) ∷ []) (idle 0 ∷ Failed faults.Other ∷ []) (codes "freed 2" ∷ codes "1 ws_detach ECONNRESET" ∷ codes "1 end ok" ∷ []) ≡ true
  pub ws_too_long : framed (Tries (calls.WsDetach 2 0 [] Never) ∷ []) (idle 0 ∷ Took 6 ∷ Came (130 ∷ 126 ∷ 64 ∷ 1 ∷ []) ∷ []) (codes "freed 2" ∷ codes "1 ws_detach EMSGSIZE" ∷ codes "1 end ok" ∷ []) ≡ true
  pub head_broken : headed (Tries (calls.HttpRecvrequest 2 Never) ∷ Tries (calls.HttpDetach 2 Never) ∷ []) (idle 0 ∷ Came (codes "x\n") ∷ []) (codes "1 http_recvrequest EPROTO" ∷ codes "freed 2" ∷ codes "1 http_detach ECONNRESET" ∷ codes "1 end ok" ∷ []) ≡ true
  pub head_fails : headed (Tries (calls.HttpDetach 2 Never) ∷ []) (idle 0 ∷ Failed faults.Other ∷ []) (codes "freed 2" ∷ codes "1 http_detach ECONNRESET" ∷ codes "1 end ok" ∷ []) ≡ true
  pub head_too_long : headed (Tries (calls.HttpDetach 2 Never) ∷ []) (idle 0 ∷ Took 2 ∷ Came (many 4096) ∷ idle 0 ∷ Came (many 4096) ∷ idle 0 ∷ Came (many 1) ∷ []) (codes "freed 2" ∷ codes "1 http_detach EMSGSIZE" ∷ codes "1 end ok" ∷ []) ≡ true
  pub head_without_end : headed (Tries (calls.HttpDetach 2 Never) ∷ []) (idle 0 ∷ Took 2 ∷ End ∷ []) (codes "freed 2" ∷ codes "1 http_detach EPIPE" ∷ codes "1 end ok" ∷ []) ≡ true
  pub head_cut : headed (Does (calls.HttpRecvrequest 2 Never) ∷ Tries (calls.HttpDetach 2 Never) ∷ []) (idle 0 ∷ Came (codes "GET / HTTP/1.1\r\n") ∷ idle 0 ∷ Took 2 ∷ End ∷ []) (codes "1 http_recvrequest #3:474554 #1:2f" ∷ codes "freed 2" ∷ codes "1 http_detach EPROTO" ∷ codes "1 end ok" ∷ []) ≡ true
  pub head_shut : linked (Does (calls.TcpDone 1 Never) ∷ Does (calls.HttpAttach 1) ∷ Tries (calls.HttpDetach 2 Never) ∷ []) (idle 0 ∷ Done ∷ []) (codes "1 tcp_done =0" ∷ codes "moved 1 2" ∷ codes "1 http_attach =2" ∷ codes "freed 2" ∷ codes "1 http_detach EPIPE" ∷ codes "1 end ok" ∷ []) ≡ true
  pub head_cancelled : opens (replayed (connected []) 80 leaves_head) (codes "1 start =0" ∷ codes "1 tcp_connect =1" ∷ codes "moved 1 2" ∷ codes "1 http_attach =2" ∷ codes "1 bundle =3" ∷ codes "moved 2 4" ∷ codes "1 bundle_go =0" ∷ codes "2 start =0" ∷ codes "1 yield =0" ∷ codes "freed 4" ∷ codes "2 http_detach ECANCELED" ∷ codes "2 end ok" ∷ codes "freed 3" ∷ codes "1 hclose =0" ∷ codes "1 end ok" ∷ []) ≡ true
  pub suffix_awaited : opens (replayed (connected []) 80 leaves_awaited) (codes "1 start =0" ∷ codes "1 tcp_connect =1" ∷ codes "moved 1 2" ∷ codes "1 suffix_attach =2" ∷ codes "1 go =3" ∷ codes "2 start =0" ∷ codes "1 yield =0" ∷ codes "1 suffix_detach EBUSY" ∷ codes "1 hquery =0" ∷ codes "1 end ok" ∷ codes "2 mrecv ECANCELED" ∷ codes "2 end ECANCELED" ∷ codes "freed 3" ∷ codes "freed 2" ∷ []) ≡ true

-- a line of 8,193 bytes comes in three pieces, behind these
abbrev pub long_line : List KernelReply → List KernelReply
long_line first = first ++ idle 0 ∷ Came (many 4096) ∷ idle 0 ∷ Came (many 4096) ∷ idle 0 ∷ Came (many 1) ∷ []

-- a head without end comes in four pieces
abbrev pub long_head : List KernelReply
long_head = idle 0 ∷ Came (take 4096 endless) ∷ idle 0 ∷ Came (take 4096 (drop 4096 endless)) ∷ idle 0 ∷ Came (take 4096 (drop 8192 endless)) ∷ idle 0 ∷ Came (take 4096 (drop 12288 endless)) ∷ []

-- Lines of heads that are no lines or too long break the direction, those that are too long to be sent change nothing, and handshakes that are too long or late release the stack.
pub record AnswersOfHeads : Type 0 where
  pub no_request : headed (Tries (calls.HttpRecvrequest 2 Never) ∷ Tries (calls.HttpRecvrequest 2 Never) ∷ []) (idle 0 ∷ Came (codes "GET\r\n") ∷ []) (codes "1 http_recvrequest EPROTO" ∷ codes "1 http_recvrequest ECONNRESET" ∷ codes "1 end ok" ∷ codes "freed 2" ∷ []) ≡ true
  pub no_status : headed (Tries (calls.HttpRecvstatus 2 Never) ∷ Tries (calls.HttpRecvstatus 2 Never) ∷ []) (idle 0 ∷ Came (codes "HTTP/1.1 20\r\n") ∷ []) (codes "1 http_recvstatus EPROTO" ∷ codes "1 http_recvstatus ECONNRESET" ∷ codes "1 end ok" ∷ codes "freed 2" ∷ []) ≡ true
  pub no_field : headed (Does (calls.HttpRecvrequest 2 Never) ∷ Tries (calls.HttpRecvfield 2 Never) ∷ Tries (calls.HttpRecvfield 2 Never) ∷ []) (idle 0 ∷ Came (codes "GET / HTTP/1.1\r\nno field\r\n") ∷ []) (codes "1 http_recvrequest #3:474554 #1:2f" ∷ codes "1 http_recvfield EPROTO" ∷ codes "1 http_recvfield ECONNRESET" ∷ codes "1 end ok" ∷ codes "freed 2" ∷ []) ≡ true
  pub long_request : headed (Tries (calls.HttpRecvrequest 2 Never) ∷ Tries (calls.HttpRecvrequest 2 Never) ∷ []) (long_line []) (codes "1 http_recvrequest EMSGSIZE" ∷ codes "1 http_recvrequest ECONNRESET" ∷ codes "1 end ok" ∷ codes "freed 2" ∷ []) ≡ true
  pub long_status : headed (Tries (calls.HttpRecvstatus 2 Never) ∷ Tries (calls.HttpRecvstatus 2 Never) ∷ []) (long_line []) (codes "1 http_recvstatus EMSGSIZE" ∷ codes "1 http_recvstatus ECONNRESET" ∷ codes "1 end ok" ∷ codes "freed 2" ∷ []) ≡ true
  pub long_field : headed (Does (calls.HttpRecvrequest 2 Never) ∷ Tries (calls.HttpRecvfield 2 Never) ∷ Tries (calls.HttpRecvfield 2 Never) ∷ []) (long_line (idle 0 ∷ Came (codes "GET / HTTP/1.1\r\n") ∷ [])) (codes "1 http_recvrequest #3:474554 #1:2f" ∷ codes "1 http_recvfield EMSGSIZE" ∷ codes "1 http_recvfield ECONNRESET" ∷ codes "1 end ok" ∷ codes "freed 2" ∷ []) ≡ true
  pub sent : headed (Tries (calls.HttpSendrequest 2 (codes "GET") (many 8180) Never) ∷ Tries (calls.HttpSendstatus 2 200 (many 8180) Never) ∷ Does (calls.HttpSendrequest 2 (codes "GET") (codes "/") Never) ∷ Tries (calls.HttpSendfield 2 (codes "a") (many 8190) Never) ∷ []) (idle 0 ∷ Took 16 ∷ []) (codes "1 http_sendrequest EMSGSIZE" ∷ codes "1 http_sendstatus EMSGSIZE" ∷ codes "1 http_sendrequest =0" ∷ codes "1 http_sendfield EMSGSIZE" ∷ codes "1 end ok" ∷ codes "freed 2" ∷ []) ≡ true
  pub long_client : linked (Tries (calls.WsAttachClient 1 true (many 8180) (codes "h") Never) ∷ Tries (calls.WsAttachClient 1 true (codes "/") (many 8187) Never) ∷ Tries (calls.WsAttachClient 1 true (many 8179) (many 8186) Never) ∷ Does (calls.Hquery 1 4) ∷ []) [] (codes "1 ws_attach_client EMSGSIZE" ∷ codes "1 ws_attach_client EMSGSIZE" ∷ codes "1 ws_attach_client EMSGSIZE" ∷ codes "1 hquery =0" ∷ codes "1 end ok" ∷ codes "freed 1" ∷ []) ≡ true
  pub long_server : linked (Tries (calls.WsAttachServer 1 true Never) ∷ Tries (calls.Hquery 1 4) ∷ []) long_head (codes "freed 1" ∷ codes "1 ws_attach_server EMSGSIZE" ∷ codes "1 hquery EBADF" ∷ codes "1 end ok" ∷ []) ≡ true
  pub late_client : linked (Tries (calls.WsAttachClient 1 true (codes "/") (codes "h") (At 0)) ∷ []) (idle 0 ∷ NotYet ∷ []) (codes "freed 1" ∷ codes "1 ws_attach_client ETIMEDOUT" ∷ codes "1 end ok" ∷ []) ≡ true
  pub late_server : linked (Tries (calls.WsAttachServer 1 true (At 0)) ∷ []) (idle 0 ∷ NotYet ∷ []) (codes "freed 1" ∷ codes "1 ws_attach_server ETIMEDOUT" ∷ codes "1 end ok" ∷ []) ≡ true
