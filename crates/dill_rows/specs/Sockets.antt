-- Worked runs of sends, receives, layers and detaches over listed replies.
use Rattle.std.specs.Prelude.{◌≡◌, true, false, ℕ, zero, List, [], ◌∷◌, codes}
use Rattle.dill_base.specs.declared.deadline.Deadline.TheVariants.{Never, At}
use Rattle.dill_calls.specs.declared.call.Call.TheVariants as calls
use Rattle.dill_calls.specs.declared.lists.Arg.TheVariants.{Give}
use Rattle.dill_kernel.specs.declared.replies.KernelFault.TheVariants as faults
use Rattle.dill_kernel.specs.declared.replies.KernelReply.TheVariants.{Woke, Done, NotYet, Came, Took, End, Failed}
use Rattle.dill_rows.specs.Play.{Does, Tries, Text}
use Rattle.dill_rows.specs.Playing.{plain, nth, replayed, idle, place, connected}
use Rattle.dill_rows.specs.Runs.{does}

-- a send to 5 of which two bytes go, and a second one
abbrev pub sends : ℕ → List ℕ → Text
sends program args = plain 0 (Does (calls.TcpConnect (place 9) Never) ∷ Tries (calls.Bsend 1 (codes "abcdef") (At 5)) ∷ Tries (calls.Bsend 1 (codes "x") Never) ∷ [])

-- A send that is given up in the middle breaks its direction.
pub record SendGivenUp : Type 0 where
  pub run : does (replayed (connected (idle 0 ∷ Took 2 ∷ idle 0 ∷ NotYet ∷ idle 5 ∷ [])) 40 sends) (codes "1 start =0" ∷ codes "1 tcp_connect =1" ∷ codes "1 bsend ETIMEDOUT" ∷ codes "1 bsend ECONNRESET" ∷ codes "1 end ok" ∷ codes "freed 1" ∷ codes "summary status=0 errno=none turns=4 rounds=5 closing=0 made=1 gone=1 lacks=0" ∷ []) (codes "wait 0" ∷ codes "wait 0" ∷ codes "connect 1" ∷ codes "finish 1" ∷ codes "wait 0" ∷ codes "write 1 #6:616263646566" ∷ codes "wait 0" ∷ codes "write 1 #4:63646566" ∷ codes "wait until 5" ∷ codes "close 1" ∷ []) ≡ true

abbrev pub tries_once : ℕ → List ℕ → Text
tries_once program args = plain 0 (Does (calls.TcpConnect (place 9) Never) ∷ Tries (calls.Bsend 1 [] Never) ∷ Tries (calls.Brecv 1 3 (At 0)) ∷ [])

-- A call on a link with a passed deadline is tried in one round, and no bytes are sent at once.
pub record TriedOnce : Type 0 where
  pub run : does (replayed (connected (idle 0 ∷ NotYet ∷ [])) 40 tries_once) (codes "1 start =0" ∷ codes "1 tcp_connect =1" ∷ codes "1 bsend =0" ∷ codes "1 brecv ETIMEDOUT" ∷ codes "1 end ok" ∷ codes "freed 1" ∷ codes "summary status=0 errno=none turns=4 rounds=3 closing=0 made=1 gone=1 lacks=0" ∷ []) (codes "wait 0" ∷ codes "wait 0" ∷ codes "connect 1" ∷ codes "finish 1" ∷ codes "wait 0" ∷ codes "read 1" ∷ codes "close 1" ∷ []) ≡ true

abbrev pub cut_message : ℕ → List ℕ → Text
cut_message program args = plain 0 (Does (calls.TcpConnect (place 9) Never) ∷ Does (calls.PrefixAttach 1 2 true) ∷ Tries (calls.Mrecv 2 9 Never) ∷ Tries (calls.Mrecv 2 9 Never) ∷ [])

-- The end inside a message breaks the receiving direction.
pub record EndInside : Type 0 where
  pub run : does (replayed (connected (idle 0 ∷ Came (0 ∷ 5 ∷ 104 ∷ []) ∷ idle 0 ∷ End ∷ [])) 40 cut_message) (codes "1 start =0" ∷ codes "1 tcp_connect =1" ∷ codes "moved 1 2" ∷ codes "1 prefix_attach =2" ∷ codes "1 mrecv EPROTO" ∷ codes "1 mrecv ECONNRESET" ∷ codes "1 end ok" ∷ codes "freed 2" ∷ codes "summary status=0 errno=none turns=5 rounds=4 closing=0 made=2 gone=2 lacks=0" ∷ []) (codes "wait 0" ∷ codes "wait 0" ∷ codes "connect 1" ∷ codes "finish 1" ∷ codes "wait 0" ∷ codes "read 1" ∷ codes "wait 0" ∷ codes "read 1" ∷ codes "close 1" ∷ []) ≡ true

-- a tower of two layers that is taken down again
abbrev pub tower : ℕ → List ℕ → Text
tower program args = plain 0 (Does (calls.TcpConnect (place 9) Never) ∷ Does (calls.PrefixAttach 1 2 true) ∷ Does (calls.TermAttach 2 []) ∷ Does (calls.Mrecv 3 10 Never) ∷ Tries (calls.Mrecv 3 10 Never) ∷ Does (calls.TermDetach 3 (At 0)) ∷ Does (calls.PrefixDetach 4) ∷ Does (calls.Brecv 5 3 Never) ∷ [])

-- Detaches hand the lower socket back with exactly the bytes that were not used.
pub record DetachKeepsUnread : Type 0 where
  pub run : does (replayed (connected (idle 0 ∷ Came (0 ∷ 1 ∷ 97 ∷ 0 ∷ 0 ∷ 120 ∷ 121 ∷ 122 ∷ []) ∷ idle 0 ∷ Took 2 ∷ [])) 50 tower) (codes "1 start =0" ∷ codes "1 tcp_connect =1" ∷ codes "moved 1 2" ∷ codes "1 prefix_attach =2" ∷ codes "moved 2 3" ∷ codes "1 term_attach =3" ∷ codes "1 mrecv #1:61" ∷ codes "1 mrecv EPIPE" ∷ codes "moved 3 4" ∷ codes "1 term_detach =4" ∷ codes "moved 4 5" ∷ codes "1 prefix_detach =5" ∷ codes "1 brecv #3:78797a" ∷ codes "1 end ok" ∷ codes "freed 5" ∷ codes "summary status=0 errno=none turns=9 rounds=4 closing=0 made=5 gone=5 lacks=0" ∷ []) (codes "wait 0" ∷ codes "wait 0" ∷ codes "connect 1" ∷ codes "finish 1" ∷ codes "wait 0" ∷ codes "read 1" ∷ codes "wait 0" ∷ codes "write 1 #2:0000" ∷ codes "close 1" ∷ []) ≡ true

-- a detach that waits for the peer's end, and a closing
abbrev pub detaches : ℕ → List ℕ → Text
detaches zero args = plain 0 (Does (calls.TcpListen (place 7000) 1) ∷ Does (calls.TcpConnect (place 7000) Never) ∷ Does (calls.Go 1 (Give 2 ∷ [])) ∷ Does (calls.Msleep (At 10)) ∷ Does (calls.Hclose 3) ∷ [])
detaches program args = plain 1 (Does (calls.PrefixAttach (nth args 0) 2 true) ∷ Does (calls.TermAttach 5 []) ∷ Tries (calls.TermDetach 6 Never) ∷ Tries (calls.Hclose 6) ∷ [])

-- A detach that is cancelled releases the whole stack, whose link is closed once.
pub record CancelledDetach : Type 0 where
  pub run : does (replayed (idle 0 ∷ idle 0 ∷ Done ∷ idle 0 ∷ Done ∷ Done ∷ Woke 0 (record { link = 1; read = true; write = false } ∷ []) ∷ Took 2 ∷ NotYet ∷ idle 10 ∷ []) 60 detaches) (codes "1 start =0" ∷ codes "1 tcp_listen =1" ∷ codes "1 tcp_connect =2" ∷ codes "moved 2 4" ∷ codes "1 go =3" ∷ codes "2 start =0" ∷ codes "moved 4 5" ∷ codes "2 prefix_attach =5" ∷ codes "moved 5 6" ∷ codes "2 term_attach =6" ∷ codes "1 msleep =0" ∷ codes "freed 6" ∷ codes "2 term_detach ECANCELED" ∷ codes "2 hclose EBADF" ∷ codes "2 end ok" ∷ codes "freed 3" ∷ codes "1 hclose =0" ∷ codes "1 end ok" ∷ codes "freed 1" ∷ codes "summary status=0 errno=none turns=11 rounds=5 closing=0 made=6 gone=6 lacks=0" ∷ []) (codes "wait 0" ∷ codes "wait 0" ∷ codes "listen 1" ∷ codes "wait 0" ∷ codes "connect 2" ∷ codes "finish 2" ∷ codes "wait 0" ∷ codes "write 2 #2:0000" ∷ codes "read 2" ∷ codes "wait until 10" ∷ codes "close 1" ∷ codes "close 2" ∷ []) ≡ true

abbrev pub accepts : ℕ → List ℕ → Text
accepts program args = plain 0 (Does (calls.TcpListen (place 7000) 1) ∷ Does (calls.TcpAccept 1 Never) ∷ [])

-- A wait that fails stops the run.
pub record FailedWait : Type 0 where
  pub run : does (replayed (idle 0 ∷ idle 0 ∷ Done ∷ idle 0 ∷ NotYet ∷ Failed faults.Other ∷ []) 40 accepts) (codes "1 start =0" ∷ codes "1 tcp_listen =1" ∷ codes "1 tcp_accept ECANCELED" ∷ codes "1 end ECANCELED" ∷ codes "freed 1" ∷ codes "summary status=9 errno=none turns=2 rounds=4 closing=1 made=1 gone=1 lacks=0" ∷ []) (codes "wait 0" ∷ codes "wait 0" ∷ codes "listen 1" ∷ codes "wait 0" ∷ codes "accept 1 2" ∷ codes "wait" ∷ codes "close 1" ∷ []) ≡ true
