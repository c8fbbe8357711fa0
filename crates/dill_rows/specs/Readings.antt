-- Worked runs of doubtful places: numbers that are occupied, cancelled takers, dead clauses, and the order of what is given up.
use Rattle.std.specs.Prelude.{◌≡◌, true, ℕ, zero, List, [], ◌∷◌, codes}
use Rattle.dill_base.specs.declared.deadline.Deadline.TheVariants.{Never, At}
use Rattle.dill_calls.specs.declared.call.Call.TheVariants as calls
use Rattle.dill_calls.specs.declared.lists.Arg.TheVariants.{Show}
use Rattle.dill_calls.specs.declared.lists.Clause.TheVariants.{Recv}
use Rattle.dill_kernel.specs.declared.replies.KernelFault.TheVariants as faults
use Rattle.dill_kernel.specs.declared.replies.KernelReply.TheVariants.{Done, NotYet, Failed}
use Rattle.dill_rows.specs.Play.{Does, Tries, Text}
use Rattle.dill_rows.specs.Playing.{plain, nth, played, replayed, idle, place, connected}
use Rattle.dill_rows.specs.Runs.{prints, does}

abbrev pub occupied : ℕ → List ℕ → Text
occupied zero args = plain 0 (Does (calls.TcpConnect (place 9) Never) ∷ Does (calls.Go 1 (Show 1 ∷ [])) ∷ Does calls.Yield ∷ Tries (calls.Hquery 1 4) ∷ Tries (calls.Hquery 1 5) ∷ Tries (calls.Bsend 1 [] Never) ∷ Tries (calls.Msend 1 [] Never) ∷ Tries (calls.Hown 1) ∷ Tries (calls.Hclose 1) ∷ [])
occupied program args = plain 1 (Does (calls.WsAttachServer (nth args 0) true Never) ∷ [])

-- While a handshake is pending its layer is on top, and every other call on the number is busy.
pub record Occupied : Type 0 where
  pub run : prints (replayed (connected []) 40 occupied) (codes "1 start =0" ∷ codes "1 tcp_connect =1" ∷ codes "1 go =2" ∷ codes "2 start =0" ∷ codes "1 yield =0" ∷ codes "1 hquery ENOTSUP" ∷ codes "1 hquery EBUSY" ∷ codes "1 bsend ENOTSUP" ∷ codes "1 msend EBUSY" ∷ codes "1 hown EBUSY" ∷ codes "1 hclose EBUSY" ∷ codes "1 end ok" ∷ codes "freed 1" ∷ codes "2 ws_attach_server ECANCELED" ∷ codes "2 end ECANCELED" ∷ codes "freed 2" ∷ codes "summary status=0 errno=none turns=12 rounds=2 closing=0 made=2 gone=2 lacks=0" ∷ []) ≡ true

abbrev pub dead_clause : ℕ → List ℕ → Text
dead_clause program args = plain 0 (Does calls.Chmake ∷ Does (calls.Chdone 1) ∷ Tries (calls.Choose Never (Recv 2 1 ∷ Recv 9 1 ∷ [])) ∷ Tries (calls.Choose Never (Recv 2 1 ∷ [])) ∷ Tries (calls.Chdone 1) ∷ [])

-- A choice with a dead number is refused whole, though an earlier clause could be done.
pub record DeadClause : Type 0 where
  pub run : prints (played 30 dead_clause) (codes "1 start =0" ∷ codes "1 chmake =1,2" ∷ codes "1 chdone =0" ∷ codes "1 choose EBADF" ∷ codes "1 choose @0 EPIPE" ∷ codes "1 chdone EPIPE" ∷ codes "1 end ok" ∷ codes "freed 2" ∷ codes "freed 1" ∷ codes "summary status=0 errno=none turns=6 rounds=1 closing=0 made=2 gone=2 lacks=0" ∷ []) ≡ true

abbrev pub gives_ups : ℕ → List ℕ → Text
gives_ups zero args = plain 0 (Does (calls.TcpConnect (place 9) Never) ∷ Does (calls.TcpConnect (place 9) Never) ∷ Does calls.Bundle ∷ Does (calls.BundleGo 3 1 (Show 2 ∷ [])) ∷ Does (calls.BundleGo 3 1 (Show 1 ∷ [])) ∷ Does calls.Yield ∷ Does (calls.Hclose 3) ∷ [])
gives_ups program args = plain 1 (Does (calls.TcpClose (nth args 0) Never) ∷ [])

-- What several coroutines give up in one step is released in the order of the coroutines.
pub record GiveUps : Type 0 where
  pub run : prints (replayed (connected (idle 0 ∷ Done ∷ Done ∷ [])) 50 gives_ups) (codes "1 start =0" ∷ codes "1 tcp_connect =1" ∷ codes "1 tcp_connect =2" ∷ codes "1 bundle =3" ∷ codes "1 bundle_go =0" ∷ codes "2 start =0" ∷ codes "1 bundle_go =0" ∷ codes "3 start =0" ∷ codes "1 yield =0" ∷ codes "freed 2" ∷ codes "freed 1" ∷ codes "2 tcp_close ECANCELED" ∷ codes "2 end ECANCELED" ∷ codes "3 tcp_close ECANCELED" ∷ codes "3 end ECANCELED" ∷ codes "freed 3" ∷ codes "1 hclose =0" ∷ codes "1 end ok" ∷ codes "summary status=0 errno=none turns=12 rounds=3 closing=0 made=3 gone=3 lacks=0" ∷ []) ≡ true

abbrev pub cancelled_takers : ℕ → List ℕ → Text
cancelled_takers zero args = plain 0 (Does (calls.TcpConnect (place 9) Never) ∷ Does calls.Bundle ∷ Does (calls.BundleGo 2 1 (Show 1 ∷ [])) ∷ Does calls.Yield ∷ Does (calls.Hclose 2) ∷ [])
cancelled_takers program args = plain 1 (Tries (calls.Msleep Never) ∷ Tries (calls.TcpClose (nth args 0) Never) ∷ Tries (calls.Hown (nth args 0)) ∷ Tries (calls.Hquery (nth args 0) 4) ∷ Tries (calls.Bundle) ∷ [])

-- A cancelled caller that takes another's handle is busy where its call gives a stack up, and else cancelled.
pub record CancelledTakers : Type 0 where
  pub run : prints (replayed (connected []) 50 cancelled_takers) (codes "1 start =0" ∷ codes "1 tcp_connect =1" ∷ codes "1 bundle =2" ∷ codes "1 bundle_go =0" ∷ codes "2 start =0" ∷ codes "1 yield =0" ∷ codes "2 msleep ECANCELED" ∷ codes "2 tcp_close EBUSY" ∷ codes "2 hown ECANCELED" ∷ codes "2 hquery =0" ∷ codes "2 bundle ECANCELED" ∷ codes "2 end ok" ∷ codes "freed 2" ∷ codes "1 hclose =0" ∷ codes "1 end ok" ∷ codes "freed 1" ∷ codes "summary status=0 errno=none turns=12 rounds=2 closing=0 made=2 gone=2 lacks=0" ∷ []) ≡ true

abbrev pub ends_sending : ℕ → List ℕ → Text
ends_sending program args = plain 0 (Does (calls.TcpConnect (place 9) Never) ∷ Tries (calls.TcpDone 1 Never) ∷ Tries (calls.Bsend 1 (codes "x") Never) ∷ Tries (calls.Brecv 1 1 Never) ∷ Tries (calls.Bsend 1 (codes "x") Never) ∷ [])

-- A direction whose shut failed is broken and not done; one that is done stays done where the link fails later.
pub record DoneAndBroken : Type 0 where
  pub shut_failed : does (replayed (connected (idle 0 ∷ Failed faults.Other ∷ [])) 40 ends_sending) (codes "1 start =0" ∷ codes "1 tcp_connect =1" ∷ codes "1 tcp_done ECONNRESET" ∷ codes "1 bsend ECONNRESET" ∷ codes "1 brecv ECONNRESET" ∷ codes "1 bsend ECONNRESET" ∷ codes "1 end ok" ∷ codes "freed 1" ∷ codes "summary status=0 errno=none turns=6 rounds=3 closing=0 made=1 gone=1 lacks=0" ∷ []) (codes "wait 0" ∷ codes "wait 0" ∷ codes "connect 1" ∷ codes "finish 1" ∷ codes "wait 0" ∷ codes "shut 1" ∷ codes "close 1" ∷ []) ≡ true
  pub read_failed : does (replayed (connected (idle 0 ∷ Done ∷ idle 0 ∷ Failed faults.Other ∷ [])) 40 ends_sending) (codes "1 start =0" ∷ codes "1 tcp_connect =1" ∷ codes "1 tcp_done =0" ∷ codes "1 bsend EPIPE" ∷ codes "1 brecv ECONNRESET" ∷ codes "1 bsend EPIPE" ∷ codes "1 end ok" ∷ codes "freed 1" ∷ codes "summary status=0 errno=none turns=6 rounds=4 closing=0 made=1 gone=1 lacks=0" ∷ []) (codes "wait 0" ∷ codes "wait 0" ∷ codes "connect 1" ∷ codes "finish 1" ∷ codes "wait 0" ∷ codes "shut 1" ∷ codes "wait 0" ∷ codes "read 1" ∷ codes "close 1" ∷ []) ≡ true

abbrev pub accepts_late : ℕ → List ℕ → Text
accepts_late program args = plain 0 (Does (calls.TcpListen (place 9) 1) ∷ Tries (calls.TcpAccept 1 (At 0)) ∷ Tries (calls.TcpListen (place 9) 0) ∷ [])

abbrev pub accepts_closed : ℕ → List ℕ → Text
accepts_closed zero args = plain 0 (Does (calls.TcpListen (place 9) 1) ∷ Does (calls.Go 1 (Show 1 ∷ [])) ∷ Does calls.Yield ∷ Does (calls.Hclose 1) ∷ Does (calls.BundleWait 2 Never) ∷ [])
accepts_closed program args = plain 1 (Tries (calls.TcpAccept (nth args 0) Never) ∷ [])

abbrev pub connects_cancelled : ℕ → List ℕ → Text
connects_cancelled zero args = plain 0 (Does calls.Bundle ∷ Does (calls.BundleGo 1 1 []) ∷ Does (calls.Msleep (At 5)) ∷ Does (calls.Hclose 1) ∷ Does (calls.Msleep (At 9)) ∷ [])
connects_cancelled program args = plain 0 (Tries (calls.TcpConnect (place 9) Never) ∷ [])

-- An accept that times out, or whose listener is closed, and a connect that is cancelled give back what they kept.
pub record GivenBack : Type 0 where
  pub late : does (replayed (idle 0 ∷ idle 0 ∷ Done ∷ idle 0 ∷ NotYet ∷ []) 40 accepts_late) (codes "1 start =0" ∷ codes "1 tcp_listen =1" ∷ codes "1 tcp_accept ETIMEDOUT" ∷ codes "1 tcp_listen EINVAL" ∷ codes "1 end ok" ∷ codes "freed 1" ∷ codes "summary status=0 errno=none turns=4 rounds=3 closing=0 made=1 gone=1 lacks=0" ∷ []) (codes "wait 0" ∷ codes "wait 0" ∷ codes "listen 1" ∷ codes "wait 0" ∷ codes "accept 1 2" ∷ codes "close 1" ∷ []) ≡ true
  pub closed : does (replayed (idle 0 ∷ idle 0 ∷ Done ∷ []) 40 accepts_closed) (codes "1 start =0" ∷ codes "1 tcp_listen =1" ∷ codes "1 go =2" ∷ codes "2 start =0" ∷ codes "1 yield =0" ∷ codes "freed 1" ∷ codes "1 hclose =0" ∷ codes "2 tcp_accept EBADF" ∷ codes "2 end ok" ∷ codes "1 bundle_wait =0" ∷ codes "1 end ok" ∷ codes "freed 2" ∷ codes "summary status=0 errno=none turns=8 rounds=2 closing=0 made=2 gone=2 lacks=0" ∷ []) (codes "wait 0" ∷ codes "wait 0" ∷ codes "listen 1" ∷ codes "close 1" ∷ []) ≡ true
  pub cancelled : does (replayed (idle 0 ∷ idle 0 ∷ Done ∷ NotYet ∷ idle 5 ∷ idle 5 ∷ idle 9 ∷ []) 50 connects_cancelled) (codes "1 start =0" ∷ codes "1 bundle =1" ∷ codes "1 bundle_go =0" ∷ codes "2 start =0" ∷ codes "1 msleep =0" ∷ codes "2 tcp_connect ECANCELED" ∷ codes "2 end ok" ∷ codes "freed 1" ∷ codes "1 hclose =0" ∷ codes "1 msleep =0" ∷ codes "1 end ok" ∷ codes "summary status=0 errno=none turns=8 rounds=5 closing=0 made=1 gone=1 lacks=0" ∷ []) (codes "wait 0" ∷ codes "wait 0" ∷ codes "connect 1" ∷ codes "finish 1" ∷ codes "wait until 5" ∷ codes "wait 0" ∷ codes "close 1" ∷ codes "wait until 9" ∷ []) ≡ true
