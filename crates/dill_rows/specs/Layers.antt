-- Worked runs of layers: the peer's end, an end that was sent, bytes that came before, and a link that had its `shut`.
use Rattle.std.specs.Prelude.{◌≡◌, true, ℕ, List, [], ◌∷◌, codes}
use Rattle.dill_base.specs.declared.deadline.Deadline.TheVariants.{Never}
use Rattle.dill_calls.specs.declared.call.Call.TheVariants as calls
use Rattle.dill_kernel.specs.declared.replies.KernelReply.TheVariants.{Done, Came, Took, End}
use Rattle.dill_rows.specs.Play.{Does, Tries, Text}
use Rattle.dill_rows.specs.Playing.{plain, replayed, idle, place, connected}
use Rattle.dill_rows.specs.Runs.{does}

abbrev pub closed_by_peer : ℕ → List ℕ → Text
closed_by_peer program args = plain 0 (Does (calls.TcpConnect (place 9) Never) ∷ Does (calls.WsAttachNohttp 1 true true) ∷ Tries (calls.Mrecv 2 9 Never) ∷ Tries (calls.Mrecv 2 9 Never) ∷ Does (calls.Msend 2 (codes "x") Never) ∷ Does (calls.WsDetach 2 0 [] Never) ∷ Does (calls.Brecv 3 1 Never) ∷ [])

-- Behind the peer's close frame nothing is received; messages still go, and a detach sends its own close frame and has met the peer's.
pub record PeerCloses : Type 0 where
  pub run : does (replayed (connected (idle 0 ∷ Came (136 ∷ 0 ∷ 7 ∷ []) ∷ idle 0 ∷ Took 7 ∷ idle 0 ∷ Took 6 ∷ [])) 60 closed_by_peer) (codes "1 start =0" ∷ codes "1 tcp_connect =1" ∷ codes "moved 1 2" ∷ codes "1 ws_attach_nohttp =2" ∷ codes "1 mrecv EPIPE" ∷ codes "1 mrecv EPIPE" ∷ codes "1 msend =0" ∷ codes "moved 2 3" ∷ codes "1 ws_detach =3" ∷ codes "1 brecv #1:07" ∷ codes "1 end ok" ∷ codes "freed 3" ∷ codes "summary status=0 errno=none turns=8 rounds=5 closing=0 made=3 gone=3 lacks=0" ∷ []) (codes "wait 0" ∷ codes "wait 0" ∷ codes "connect 1" ∷ codes "finish 1" ∷ codes "wait 0" ∷ codes "read 1" ∷ codes "wait 0" ∷ codes "write 1 #7:81810000000078" ∷ codes "wait 0" ∷ codes "write 1 #6:888000000000" ∷ codes "close 1" ∷ []) ≡ true

abbrev pub ends_once : ℕ → List ℕ → Text
ends_once program args = plain 0 (Does (calls.TcpConnect (place 9) Never) ∷ Does (calls.PrefixAttach 1 2 true) ∷ Does (calls.TermAttach 2 []) ∷ Does (calls.TermDone 3 Never) ∷ Tries (calls.Msend 3 (codes "x") Never) ∷ Tries (calls.TermDone 3 Never) ∷ Does (calls.TermDetach 3 Never) ∷ Does (calls.PrefixDetach 4) ∷ Does (calls.Brecv 5 1 Never) ∷ [])

-- An end is sent once: the detach behind it only drops messages, up to the peer's.
pub record EndSentOnce : Type 0 where
  pub run : does (replayed (connected (idle 0 ∷ Took 2 ∷ idle 0 ∷ Came (0 ∷ 1 ∷ 97 ∷ 0 ∷ 0 ∷ 120 ∷ []) ∷ [])) 60 ends_once) (codes "1 start =0" ∷ codes "1 tcp_connect =1" ∷ codes "moved 1 2" ∷ codes "1 prefix_attach =2" ∷ codes "moved 2 3" ∷ codes "1 term_attach =3" ∷ codes "1 term_done =0" ∷ codes "1 msend EPIPE" ∷ codes "1 term_done EPIPE" ∷ codes "moved 3 4" ∷ codes "1 term_detach =4" ∷ codes "moved 4 5" ∷ codes "1 prefix_detach =5" ∷ codes "1 brecv #1:78" ∷ codes "1 end ok" ∷ codes "freed 5" ∷ codes "summary status=0 errno=none turns=10 rounds=4 closing=0 made=5 gone=5 lacks=0" ∷ []) (codes "wait 0" ∷ codes "wait 0" ∷ codes "connect 1" ∷ codes "finish 1" ∷ codes "wait 0" ∷ codes "write 1 #2:0000" ∷ codes "wait 0" ∷ codes "read 1" ∷ codes "close 1" ∷ []) ≡ true

abbrev pub attaches_behind : ℕ → List ℕ → Text
attaches_behind program args = plain 0 (Does (calls.TcpConnect (place 9) Never) ∷ Does (calls.Brecv 1 1 Never) ∷ Does (calls.PrefixAttach 1 2 true) ∷ Does (calls.Mrecv 2 9 Never) ∷ [])

-- What came before a layer was attached is read through it.
pub record AttachKeepsUnread : Type 0 where
  pub run : does (replayed (connected (idle 0 ∷ Came (120 ∷ 0 ∷ 1 ∷ 97 ∷ []) ∷ [])) 40 attaches_behind) (codes "1 start =0" ∷ codes "1 tcp_connect =1" ∷ codes "1 brecv #1:78" ∷ codes "moved 1 2" ∷ codes "1 prefix_attach =2" ∷ codes "1 mrecv #1:61" ∷ codes "1 end ok" ∷ codes "freed 2" ∷ codes "summary status=0 errno=none turns=5 rounds=3 closing=0 made=2 gone=2 lacks=0" ∷ []) (codes "wait 0" ∷ codes "wait 0" ∷ codes "connect 1" ∷ codes "finish 1" ∷ codes "wait 0" ∷ codes "read 1" ∷ codes "close 1" ∷ []) ≡ true

abbrev pub after_shut : ℕ → List ℕ → Text
after_shut program args = plain 0 (Does (calls.TcpConnect (place 9) Never) ∷ Does (calls.TcpDone 1 Never) ∷ Tries (calls.WsAttachClient 1 true (codes "/") [] Never) ∷ Tries (calls.WsAttachClient 1 true (codes "/") (codes "h") Never) ∷ Tries (calls.WsAttachServer 1 true Never) ∷ Does (calls.PrefixAttach 1 2 true) ∷ Does (calls.TermAttach 2 []) ∷ Tries (calls.Msend 3 (codes "x") Never) ∷ Tries (calls.TermDetach 3 Never) ∷ [])

abbrev pub closes_after_shut : ℕ → List ℕ → Text
closes_after_shut program args = plain 0 (Does (calls.TcpConnect (place 9) Never) ∷ Does (calls.TcpDone 1 Never) ∷ Does (calls.TcpClose 1 Never) ∷ [])

-- Behind a `shut` no handshake begins and nothing is sent, and a detach that would send releases the stack. The `shut` is made once.
pub record AfterShut : Type 0 where
  pub sends : does (replayed (connected (idle 0 ∷ Done ∷ [])) 50 after_shut) (codes "1 start =0" ∷ codes "1 tcp_connect =1" ∷ codes "1 tcp_done =0" ∷ codes "1 ws_attach_client EINVAL" ∷ codes "1 ws_attach_client EPIPE" ∷ codes "1 ws_attach_server EPIPE" ∷ codes "moved 1 2" ∷ codes "1 prefix_attach =2" ∷ codes "moved 2 3" ∷ codes "1 term_attach =3" ∷ codes "1 msend EPIPE" ∷ codes "freed 3" ∷ codes "1 term_detach EPIPE" ∷ codes "1 end ok" ∷ codes "summary status=0 errno=none turns=10 rounds=3 closing=0 made=3 gone=3 lacks=0" ∷ []) (codes "wait 0" ∷ codes "wait 0" ∷ codes "connect 1" ∷ codes "finish 1" ∷ codes "wait 0" ∷ codes "shut 1" ∷ codes "close 1" ∷ []) ≡ true
  pub closes : does (replayed (connected (idle 0 ∷ Done ∷ idle 0 ∷ End ∷ [])) 50 closes_after_shut) (codes "1 start =0" ∷ codes "1 tcp_connect =1" ∷ codes "1 tcp_done =0" ∷ codes "freed 1" ∷ codes "1 tcp_close =0" ∷ codes "1 end ok" ∷ codes "summary status=0 errno=none turns=4 rounds=4 closing=0 made=1 gone=1 lacks=0" ∷ []) (codes "wait 0" ∷ codes "wait 0" ∷ codes "connect 1" ∷ codes "finish 1" ∷ codes "wait 0" ∷ codes "shut 1" ∷ codes "wait 0" ∷ codes "read 1" ∷ codes "close 1" ∷ []) ≡ true

abbrev pub reads_lines : ℕ → List ℕ → Text
reads_lines program args = plain 0 (Does (calls.TcpConnect (place 9) Never) ∷ Does (calls.Brecv 1 0 Never) ∷ Does (calls.SuffixAttach 1 (codes "\r\n")) ∷ Does (calls.Mrecv 2 9 Never) ∷ Does (calls.Msend 2 (codes "x") Never) ∷ Does (calls.SuffixDetach 2) ∷ Does (calls.Brecv 3 2 Never) ∷ [])

-- Messages before CR LF, and what stands behind them; no bytes are received without a read.
pub record LinesOverLink : Type 0 where
  pub run : does (replayed (connected (idle 0 ∷ Came (codes "ab\r\ncd") ∷ idle 0 ∷ Took 3 ∷ [])) 50 reads_lines) (codes "1 start =0" ∷ codes "1 tcp_connect =1" ∷ codes "1 brecv #0:" ∷ codes "moved 1 2" ∷ codes "1 suffix_attach =2" ∷ codes "1 mrecv #2:6162" ∷ codes "1 msend =0" ∷ codes "moved 2 3" ∷ codes "1 suffix_detach =3" ∷ codes "1 brecv #2:6364" ∷ codes "1 end ok" ∷ codes "freed 3" ∷ codes "summary status=0 errno=none turns=8 rounds=4 closing=0 made=3 gone=3 lacks=0" ∷ []) (codes "wait 0" ∷ codes "wait 0" ∷ codes "connect 1" ∷ codes "finish 1" ∷ codes "wait 0" ∷ codes "read 1" ∷ codes "wait 0" ∷ codes "write 1 #3:780d0a" ∷ codes "close 1" ∷ []) ≡ true
