-- Worked runs of numbers and directions that are in use by a call that is pending.
use Rattle.std.specs.Prelude.{◌≡◌, true, ℕ, zero, suc, List, [], ◌∷◌, ◌++◌, codes}
use Rattle.dill_base.specs.declared.deadline.Deadline.TheVariants.{Never}
use Rattle.dill_calls.specs.declared.call.Call.{Call}
use Rattle.dill_calls.specs.declared.call.Call.TheVariants as calls
use Rattle.dill_calls.specs.declared.lists.Arg.TheVariants.{Show}
use Rattle.dill_kernel.specs.declared.replies.KernelReply.TheVariants.{Done}
use Rattle.dill_rows.specs.Play.{Item, Does, Tries, Text}
use Rattle.dill_rows.specs.Playing.{plain, nth, replayed, idle, place, connected}
use Rattle.dill_rows.specs.Runs.{prints}

abbrev pub handshakes : ℕ → List ℕ → Text
handshakes zero args = plain 0 (Does (calls.TcpConnect (place 9) Never) ∷ Does (calls.Go 1 (Show 1 ∷ [])) ∷ Does calls.Yield ∷ Tries (calls.Brecv 1 1 Never) ∷ Tries (calls.TcpClose 1 Never) ∷ Tries (calls.PrefixAttach 1 2 true) ∷ Tries (calls.HttpAttach 1) ∷ Tries (calls.WsAttachServer 1 true Never) ∷ Tries (calls.Mrecv 1 1 Never) ∷ Tries (calls.TermAttach 1 []) ∷ Tries (calls.WsDetach 1 0 [] Never) ∷ Does (calls.Go 2 (Show 1 ∷ [])) ∷ Does calls.Yield ∷ [])
handshakes (suc zero) args = plain 1 (Does (calls.WsAttachServer (nth args 0) true Never) ∷ [])
handshakes program args = plain 1 []

-- While a handshake is pending the number is a message socket's: what needs a byte socket isn't supported, and all else is busy. It may be shown to a child.
pub record HandshakeKinds : Type 0 where
  pub run : prints (replayed (connected []) 50 handshakes) (codes "1 start =0" ∷ codes "1 tcp_connect =1" ∷ codes "1 go =2" ∷ codes "2 start =0" ∷ codes "1 yield =0" ∷ codes "1 brecv ENOTSUP" ∷ codes "1 tcp_close ENOTSUP" ∷ codes "1 prefix_attach ENOTSUP" ∷ codes "1 http_attach ENOTSUP" ∷ codes "1 ws_attach_server ENOTSUP" ∷ codes "1 mrecv EBUSY" ∷ codes "1 term_attach EBUSY" ∷ codes "1 ws_detach EBUSY" ∷ codes "1 go =3" ∷ codes "3 start =0" ∷ codes "3 end ok" ∷ codes "1 yield =0" ∷ codes "1 end ok" ∷ codes "freed 1" ∷ codes "2 ws_attach_server ECANCELED" ∷ codes "2 end ECANCELED" ∷ codes "freed 3" ∷ codes "freed 2" ∷ codes "summary status=0 errno=none turns=17 rounds=2 closing=0 made=3 gone=3 lacks=0" ∷ []) ≡ true

abbrev pub leaving : ℕ → List ℕ → Text
leaving zero args = plain 0 (Does (calls.TcpConnect (place 9) Never) ∷ Does (calls.TcpConnect (place 9) Never) ∷ Does (calls.PrefixAttach 1 2 true) ∷ Does (calls.TermAttach 3 []) ∷ Does (calls.Go 1 []) ∷ Does (calls.Go 2 []) ∷ Does calls.Yield ∷ Tries (calls.Hquery 4 5) ∷ Tries (calls.Hquery 2 4) ∷ Tries (calls.Hown 4) ∷ Tries (calls.Hclose 2) ∷ Tries (calls.Mrecv 4 9 Never) ∷ Tries (calls.Brecv 2 1 Never) ∷ [])
leaving (suc zero) args = plain 0 (Does (calls.TermDetach 4 Never) ∷ [])
leaving program args = plain 0 (Does (calls.TcpClose 2 Never) ∷ [])

-- While a detach or a `tcp_close` is pending every other call on the number is busy.
pub record LeavingOccupies : Type 0 where
  pub run : prints (replayed (connected (idle 0 ∷ Done ∷ Done ∷ [])) 60 leaving) (codes "1 start =0" ∷ codes "1 tcp_connect =1" ∷ codes "1 tcp_connect =2" ∷ codes "moved 1 3" ∷ codes "1 prefix_attach =3" ∷ codes "moved 3 4" ∷ codes "1 term_attach =4" ∷ codes "1 go =5" ∷ codes "2 start =0" ∷ codes "1 go =6" ∷ codes "3 start =0" ∷ codes "1 yield =0" ∷ codes "1 hquery EBUSY" ∷ codes "1 hquery EBUSY" ∷ codes "1 hown EBUSY" ∷ codes "1 hclose EBUSY" ∷ codes "1 mrecv EBUSY" ∷ codes "1 brecv EBUSY" ∷ codes "1 end ok" ∷ codes "freed 4" ∷ codes "freed 2" ∷ codes "2 term_detach ECANCELED" ∷ codes "2 end ECANCELED" ∷ codes "3 tcp_close ECANCELED" ∷ codes "3 end ECANCELED" ∷ codes "freed 6" ∷ codes "freed 5" ∷ codes "summary status=0 errno=none turns=18 rounds=3 closing=0 made=6 gone=6 lacks=0" ∷ []) ≡ true

-- layers are attached to a connection, one makes a call that stays pending, and the other makes these
abbrev pub beside : List Item → Call → List Item → ℕ → List ℕ → Text
beside layers call tried zero args = plain 0 (Does (calls.TcpConnect (place 9) Never) ∷ layers ++ Does (calls.Go 1 []) ∷ Does calls.Yield ∷ tried)
beside layers call tried program args = plain 0 (Does call ∷ [])

abbrev pub end_layers : List Item
end_layers = Does (calls.PrefixAttach 1 2 true) ∷ Does (calls.TermAttach 2 []) ∷ []

-- a message while an end is pending, and the other way round
abbrev pub end_pending : ℕ → List ℕ → Text
end_pending = beside end_layers (calls.TermDone 3 Never) (Tries (calls.Msend 3 (codes "x") Never) ∷ Tries (calls.TermDone 3 Never) ∷ [])

abbrev pub message_pending : ℕ → List ℕ → Text
message_pending = beside end_layers (calls.Msend 3 (codes "x") Never) (Tries (calls.Msend 3 (codes "x") Never) ∷ Tries (calls.TermDone 3 Never) ∷ [])

-- the same on the bare link
abbrev pub shut_pending : ℕ → List ℕ → Text
shut_pending = beside [] (calls.TcpDone 1 Never) (Tries (calls.Bsend 1 (codes "x") Never) ∷ Tries (calls.TcpDone 1 Never) ∷ [])

abbrev pub bytes_pending : ℕ → List ℕ → Text
bytes_pending = beside [] (calls.Bsend 1 (codes "x") Never) (Tries (calls.Bsend 1 (codes "x") Never) ∷ Tries (calls.TcpDone 1 Never) ∷ [])

-- what stands before and behind the answers of the calls that are tried
abbrev pub around_end : List (List ℕ) → List (List ℕ) → List (List ℕ)
around_end tried behind = (codes "1 start =0" ∷ codes "1 tcp_connect =1" ∷ codes "moved 1 2" ∷ codes "1 prefix_attach =2" ∷ codes "moved 2 3" ∷ codes "1 term_attach =3" ∷ codes "1 go =4" ∷ codes "2 start =0" ∷ codes "1 yield =0" ∷ []) ++ tried ++ codes "1 end ok" ∷ behind ++ codes "2 end ECANCELED" ∷ codes "freed 4" ∷ codes "freed 3" ∷ codes "summary status=0 errno=none turns=10 rounds=2 closing=0 made=4 gone=4 lacks=0" ∷ []

abbrev pub around_bytes : List (List ℕ) → List (List ℕ) → List (List ℕ)
around_bytes tried behind = (codes "1 start =0" ∷ codes "1 tcp_connect =1" ∷ codes "1 go =2" ∷ codes "2 start =0" ∷ codes "1 yield =0" ∷ []) ++ tried ++ codes "1 end ok" ∷ behind ++ codes "2 end ECANCELED" ∷ codes "freed 2" ∷ codes "freed 1" ∷ codes "summary status=0 errno=none turns=8 rounds=2 closing=0 made=2 gone=2 lacks=0" ∷ []

-- An end counts as a send: while one is pending the other is busy.
pub record EndsAreSends : Type 0 where
  pub message_after_end : prints (replayed (connected []) 40 end_pending) (around_end (codes "1 msend EBUSY" ∷ codes "1 term_done EBUSY" ∷ []) (codes "2 term_done ECANCELED" ∷ [])) ≡ true
  pub end_after_message : prints (replayed (connected []) 40 message_pending) (around_end (codes "1 msend EBUSY" ∷ codes "1 term_done EBUSY" ∷ []) (codes "2 msend ECANCELED" ∷ [])) ≡ true
  pub bytes_after_shut : prints (replayed (connected []) 40 shut_pending) (around_bytes (codes "1 bsend EBUSY" ∷ codes "1 tcp_done EBUSY" ∷ []) (codes "2 tcp_done ECANCELED" ∷ [])) ≡ true
  pub shut_after_bytes : prints (replayed (connected []) 40 bytes_pending) (around_bytes (codes "1 bsend EBUSY" ∷ codes "1 tcp_done EBUSY" ∷ []) (codes "2 bsend ECANCELED" ∷ [])) ≡ true

-- a first line, a field, and the end of a head
abbrev pub request : Call
request = calls.HttpSendrequest 2 (codes "GET") (codes "/") Never

abbrev pub field : Call
field = calls.HttpSendfield 2 (codes "a") (codes "b") Never

abbrev pub line_pending : ℕ → List ℕ → Text
line_pending = beside (Does (calls.HttpAttach 1) ∷ []) request (Tries request ∷ Tries field ∷ Tries (calls.HttpDone 2 Never) ∷ [])

abbrev pub head_pending : ℕ → List ℕ → Text
head_pending = beside (Does (calls.HttpAttach 1) ∷ []) (calls.HttpDone 2 Never) (Tries field ∷ Tries request ∷ Tries (calls.HttpDone 2 Never) ∷ Tries (calls.HttpSendfield 2 (codes "a") (codes " b") Never) ∷ [])

abbrev pub receive_pending : ℕ → List ℕ → Text
receive_pending = beside (Does (calls.HttpAttach 1) ∷ []) (calls.HttpRecvrequest 2 Never) (Tries (calls.HttpRecvfield 2 Never) ∷ Tries (calls.HttpRecvrequest 2 Never) ∷ [])

abbrev pub around_head : List (List ℕ) → List (List ℕ) → List (List ℕ)
around_head tried behind = (codes "1 start =0" ∷ codes "1 tcp_connect =1" ∷ codes "moved 1 2" ∷ codes "1 http_attach =2" ∷ codes "1 go =3" ∷ codes "2 start =0" ∷ codes "1 yield =0" ∷ []) ++ tried ++ codes "1 end ok" ∷ behind ++ codes "2 end ECANCELED" ∷ codes "freed 3" ∷ codes "freed 2" ∷ []

-- A first line that is pending counts as sent, and a pending end of a head leaves no line out of its order. A first line that is awaited hasn't come yet.
pub record HeadsInUse : Type 0 where
  pub line : prints (replayed (connected []) 40 line_pending) (around_head (codes "1 http_sendrequest EINVAL" ∷ codes "1 http_sendfield EBUSY" ∷ codes "1 http_done EBUSY" ∷ []) (codes "2 http_sendrequest ECANCELED" ∷ []) ++ codes "summary status=0 errno=none turns=10 rounds=2 closing=0 made=3 gone=3 lacks=0" ∷ []) ≡ true
  pub head : prints (replayed (connected []) 40 head_pending) (around_head (codes "1 http_sendfield EBUSY" ∷ codes "1 http_sendrequest EBUSY" ∷ codes "1 http_done EBUSY" ∷ codes "1 http_sendfield EINVAL" ∷ []) (codes "2 http_done ECANCELED" ∷ []) ++ codes "summary status=0 errno=none turns=11 rounds=2 closing=0 made=3 gone=3 lacks=0" ∷ []) ≡ true
  pub receive : prints (replayed (connected []) 40 receive_pending) (around_head (codes "1 http_recvfield EINVAL" ∷ codes "1 http_recvrequest EBUSY" ∷ []) (codes "2 http_recvrequest ECANCELED" ∷ []) ++ codes "summary status=0 errno=none turns=9 rounds=2 closing=0 made=3 gone=3 lacks=0" ∷ []) ≡ true
