-- Worked runs of layers that are left and links that are closed or shut, by their owners and by others.
use Rattle.std.specs.Prelude.{◌≡◌, true, ℕ, zero, List, [], ◌∷◌, ◌++◌, codes}
use Rattle.dill_base.specs.declared.deadline.Deadline.TheVariants.{Never}
use Rattle.dill_calls.specs.declared.call.Call.TheVariants as calls
use Rattle.dill_calls.specs.declared.lists.Arg.TheVariants.{Give}
use Rattle.dill_kernel.specs.declared.replies.KernelReply.{KernelReply}
use Rattle.dill_kernel.specs.declared.replies.KernelReply.TheVariants.{Done, Came, Took, End}
use Rattle.dill_stack.specs.HttpRows.{request_text, status_line}
use Rattle.relay_trace.specs.Lines.{sized}
use Rattle.dill_rows.specs.Play.{Does, Tries, Text}
use Rattle.dill_rows.specs.Playing.{plain, nth, replayed, idle, place, connected}
use Rattle.dill_rows.specs.Runs.{prints, does}

abbrev pub answers : ℕ → List ℕ → Text
answers program args = plain 0 (Does (calls.TcpConnect (place 9) Never) ∷ Does (calls.HttpAttach 1) ∷ Does (calls.HttpRecvrequest 2 Never) ∷ Does (calls.HttpRecvfield 2 Never) ∷ Does (calls.HttpRecvfield 2 Never) ∷ Does (calls.HttpRecvfield 2 Never) ∷ Does (calls.HttpRecvfield 2 Never) ∷ Tries (calls.HttpRecvfield 2 Never) ∷ Does (calls.HttpSendstatus 2 200 (codes "OK") Never) ∷ Does (calls.HttpDone 2 Never) ∷ Does (calls.HttpDetach 2 Never) ∷ Does (calls.Brecv 3 3 Never) ∷ [])

-- the line of a field that came
abbrev pub field_came : List ℕ → List ℕ → List ℕ
field_came name value = codes "1 http_recvfield " ++ sized name ++ codes " " ++ sized value

-- A request and its body come in one piece; behind the head, which is answered, the body is read.
pub record RequestThenBody : Type 0 where
  pub run : does (replayed (connected (idle 0 ∷ Came request_text ∷ idle 0 ∷ Took 17 ∷ idle 0 ∷ Took 2 ∷ [])) 60 answers) (codes "1 start =0" ∷ codes "1 tcp_connect =1" ∷ codes "moved 1 2" ∷ codes "1 http_attach =2" ∷ codes "1 http_recvrequest #4:504f5354 #2:2f61" ∷ field_came (codes "Host") (codes "x") ∷ field_came (codes "User-Agent") (codes "curl/8.0") ∷ field_came (codes "Accept") (codes "*/*") ∷ field_came (codes "Content-Length") (codes "3") ∷ codes "1 http_recvfield EPIPE" ∷ codes "1 http_sendstatus =0" ∷ codes "1 http_done =0" ∷ codes "moved 2 3" ∷ codes "1 http_detach =3" ∷ codes "1 brecv #3:78797a" ∷ codes "1 end ok" ∷ codes "freed 3" ∷ codes "summary status=0 errno=none turns=13 rounds=5 closing=0 made=3 gone=3 lacks=0" ∷ []) (codes "wait 0" ∷ codes "wait 0" ∷ codes "connect 1" ∷ codes "finish 1" ∷ codes "wait 0" ∷ codes "read 1" ∷ codes "wait 0" ∷ (codes "write 1 " ++ sized status_line) ∷ codes "wait 0" ∷ codes "write 1 #2:0d0a" ∷ codes "close 1" ∷ []) ≡ true

abbrev pub closes_whole : ℕ → List ℕ → Text
closes_whole program args = plain 0 (Does (calls.TcpConnect (place 9) Never) ∷ Does (calls.TcpClose 1 Never) ∷ Tries (calls.Hquery 1 4) ∷ [])

-- A link is closed in order: its `shut` is made, what comes is dropped, and the peer's end answers.
pub record ClosedInOrder : Type 0 where
  pub run : does (replayed (connected (idle 0 ∷ Done ∷ Came (codes "abc") ∷ idle 0 ∷ End ∷ [])) 40 closes_whole) (codes "1 start =0" ∷ codes "1 tcp_connect =1" ∷ codes "freed 1" ∷ codes "1 tcp_close =0" ∷ codes "1 hquery EBADF" ∷ codes "1 end ok" ∷ codes "summary status=0 errno=none turns=4 rounds=4 closing=0 made=1 gone=1 lacks=0" ∷ []) (codes "wait 0" ∷ codes "wait 0" ∷ codes "connect 1" ∷ codes "finish 1" ∷ codes "wait 0" ∷ codes "shut 1" ∷ codes "read 1" ∷ codes "wait 0" ∷ codes "read 1" ∷ codes "close 1" ∷ []) ≡ true

abbrev pub shuts_late : ℕ → List ℕ → Text
shuts_late zero args = plain 0 (Does (calls.TcpConnect (place 9) Never) ∷ Does calls.Bundle ∷ Does (calls.BundleGo 2 1 []) ∷ Does calls.Yield ∷ Does (calls.Hclose 2) ∷ Does (calls.Bsend 1 (codes "x") Never) ∷ [])
shuts_late program args = plain 0 (Tries (calls.TcpDone 1 Never) ∷ [])

-- A `tcp_done` that is given up before its `shut` leaves the direction as it was.
pub record GivenUpShut : Type 0 where
  pub run : does (replayed (connected (idle 0 ∷ Took 1 ∷ [])) 50 shuts_late) (codes "1 start =0" ∷ codes "1 tcp_connect =1" ∷ codes "1 bundle =2" ∷ codes "1 bundle_go =0" ∷ codes "2 start =0" ∷ codes "1 yield =0" ∷ codes "2 tcp_done ECANCELED" ∷ codes "2 end ok" ∷ codes "freed 2" ∷ codes "1 hclose =0" ∷ codes "1 bsend =0" ∷ codes "1 end ok" ∷ codes "freed 1" ∷ codes "summary status=0 errno=none turns=9 rounds=3 closing=0 made=2 gone=2 lacks=0" ∷ []) (codes "wait 0" ∷ codes "wait 0" ∷ codes "connect 1" ∷ codes "finish 1" ∷ codes "wait 0" ∷ codes "write 1 #1:78" ∷ codes "close 1" ∷ []) ≡ true

abbrev pub cancelled_leavers : ℕ → List ℕ → Text
cancelled_leavers zero args = plain 0 (Does (calls.TcpConnect (place 9) Never) ∷ Does (calls.TcpConnect (place 9) Never) ∷ Does (calls.TcpConnect (place 9) Never) ∷ Does (calls.TcpConnect (place 9) Never) ∷ Does (calls.TcpConnect (place 9) Never) ∷ Does (calls.PrefixAttach 1 2 true) ∷ Does (calls.SuffixAttach 2 (codes "x")) ∷ Does (calls.HttpAttach 3) ∷ Does (calls.WsAttachNohttp 4 true true) ∷ Does (calls.PrefixAttach 5 2 true) ∷ Does (calls.TermAttach 10 []) ∷ Does calls.Bundle ∷ Does (calls.BundleGo 12 1 (Give 7 ∷ [])) ∷ Does calls.Yield ∷ Does (calls.Hclose 12) ∷ [])
cancelled_leavers program args = plain 1 (Tries (calls.Msleep Never) ∷ Tries (calls.PrefixDetach 6) ∷ Tries (calls.HttpDetach 8 Never) ∷ Tries (calls.WsDetach 9 0 [] Never) ∷ Tries (calls.TermDetach 11 Never) ∷ Tries (calls.SuffixDetach (nth args 0)) ∷ [])

-- four more connections, each in a round of its own
abbrev pub four_more : List KernelReply
four_more = idle 0 ∷ Done ∷ Done ∷ idle 0 ∷ Done ∷ Done ∷ idle 0 ∷ Done ∷ Done ∷ idle 0 ∷ Done ∷ Done ∷ []

-- A cancelled caller that would leave a layer of another's stack is busy, and changes nothing; its own stack is released.
pub record CancelledLeavers : Type 0 where
  pub run : prints (replayed (connected four_more) 120 cancelled_leavers) (codes "1 start =0" ∷ codes "1 tcp_connect =1" ∷ codes "1 tcp_connect =2" ∷ codes "1 tcp_connect =3" ∷ codes "1 tcp_connect =4" ∷ codes "1 tcp_connect =5" ∷ codes "moved 1 6" ∷ codes "1 prefix_attach =6" ∷ codes "moved 2 7" ∷ codes "1 suffix_attach =7" ∷ codes "moved 3 8" ∷ codes "1 http_attach =8" ∷ codes "moved 4 9" ∷ codes "1 ws_attach_nohttp =9" ∷ codes "moved 5 10" ∷ codes "1 prefix_attach =10" ∷ codes "moved 10 11" ∷ codes "1 term_attach =11" ∷ codes "1 bundle =12" ∷ codes "moved 7 13" ∷ codes "1 bundle_go =0" ∷ codes "2 start =0" ∷ codes "1 yield =0" ∷ codes "2 msleep ECANCELED" ∷ codes "2 prefix_detach EBUSY" ∷ codes "2 http_detach EBUSY" ∷ codes "2 ws_detach EBUSY" ∷ codes "2 term_detach EBUSY" ∷ codes "freed 13" ∷ codes "2 suffix_detach ECANCELED" ∷ codes "2 end ok" ∷ codes "freed 12" ∷ codes "1 hclose =0" ∷ codes "1 end ok" ∷ codes "freed 11" ∷ codes "freed 9" ∷ codes "freed 8" ∷ codes "freed 6" ∷ codes "summary status=0 errno=none turns=23 rounds=6 closing=0 made=13 gone=13 lacks=0" ∷ []) ≡ true
