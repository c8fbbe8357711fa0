-- Worked runs of one connection.
use Rattle.std.specs.Prelude.{◌≡◌, true, ℕ, List, [], ◌∷◌, codes}
use Rattle.dill_base.specs.declared.deadline.Deadline.TheVariants.{Never}
use Rattle.dill_calls.specs.declared.call.Call.TheVariants as calls
use Rattle.dill_kernel.specs.declared.replies.KernelFault.TheVariants as faults
use Rattle.dill_kernel.specs.declared.replies.KernelReply.{KernelReply}
use Rattle.dill_kernel.specs.declared.replies.KernelReply.TheVariants.{Done, Came, End, Failed}
use Rattle.dill_rows.specs.Play.{Does, Text, Play}
use Rattle.dill_rows.specs.Playing.{plain, replayed, idle, place, connected}
use Rattle.dill_rows.specs.Runs.{Run, does}

abbrev pub receives : ℕ → List ℕ → Text
receives program args = plain 0 (Does (calls.TcpConnect (place 9) Never) ∷ Does (calls.Brecv 1 3 Never) ∷ Does (calls.Print (codes "abc")) ∷ [])

-- a run of it over these replies
abbrev pub over : List KernelReply → Run Play (List KernelReply)
over replies = replayed replies 40 receives

-- A connection is made, read and closed once, and no wait lasts.
pub record ConnectAndReceive : Type 0 where
  pub run : does (over (connected (idle 0 ∷ Came (codes "ab") ∷ idle 0 ∷ Came (codes "cd") ∷ []))) (codes "1 start =0" ∷ codes "1 tcp_connect =1" ∷ codes "1 brecv #3:616263" ∷ codes "abc" ∷ codes "1 print =0" ∷ codes "1 end ok" ∷ codes "freed 1" ∷ codes "summary status=0 errno=none turns=4 rounds=4 closing=0 made=1 gone=1 lacks=0" ∷ []) (codes "wait 0" ∷ codes "wait 0" ∷ codes "connect 1" ∷ codes "finish 1" ∷ codes "wait 0" ∷ codes "read 1" ∷ codes "wait 0" ∷ codes "read 1" ∷ codes "close 1" ∷ []) ≡ true

-- A connection that isn't made ends the run with the kernel's reason, and is closed if it was begun.
pub record RefusedConnections : Type 0 where
  pub refused : does (over (idle 0 ∷ idle 0 ∷ Failed faults.Refused ∷ [])) (codes "1 start =0" ∷ codes "1 tcp_connect ECONNREFUSED" ∷ codes "1 end ECONNREFUSED" ∷ codes "summary status=1 errno=ECONNREFUSED turns=2 rounds=2 closing=0 made=0 gone=0 lacks=0" ∷ []) (codes "wait 0" ∷ codes "wait 0" ∷ codes "connect 1" ∷ []) ≡ true
  pub memory : does (over (idle 0 ∷ idle 0 ∷ Failed faults.NoMemory ∷ [])) (codes "1 start =0" ∷ codes "1 tcp_connect ENOMEM" ∷ codes "1 end ENOMEM" ∷ codes "summary status=1 errno=ENOMEM turns=2 rounds=2 closing=0 made=0 gone=0 lacks=1" ∷ []) (codes "wait 0" ∷ codes "wait 0" ∷ codes "connect 1" ∷ []) ≡ true
  pub reset : does (over (idle 0 ∷ idle 0 ∷ Done ∷ Failed faults.Reset ∷ [])) (codes "1 start =0" ∷ codes "1 tcp_connect ECONNRESET" ∷ codes "1 end ECONNRESET" ∷ codes "summary status=1 errno=ECONNRESET turns=2 rounds=2 closing=0 made=0 gone=0 lacks=0" ∷ []) (codes "wait 0" ∷ codes "wait 0" ∷ codes "connect 1" ∷ codes "finish 1" ∷ codes "close 1" ∷ []) ≡ true
  pub other : does (over (idle 0 ∷ idle 0 ∷ Done ∷ Failed faults.Other ∷ [])) (codes "1 start =0" ∷ codes "1 tcp_connect EHOSTUNREACH" ∷ codes "1 end EHOSTUNREACH" ∷ codes "summary status=1 errno=EHOSTUNREACH turns=2 rounds=2 closing=0 made=0 gone=0 lacks=0" ∷ []) (codes "wait 0" ∷ codes "wait 0" ∷ codes "connect 1" ∷ codes "finish 1" ∷ codes "close 1" ∷ []) ≡ true

-- A connection that fails or ends too early is an errno of the receive, and is closed once.
pub record BrokenConnections : Type 0 where
  pub first_failed : does (over (connected (idle 0 ∷ Failed faults.Other ∷ []))) (codes "1 start =0" ∷ codes "1 tcp_connect =1" ∷ codes "1 brecv ECONNRESET" ∷ codes "1 end ECONNRESET" ∷ codes "freed 1" ∷ codes "summary status=1 errno=ECONNRESET turns=3 rounds=3 closing=0 made=1 gone=1 lacks=0" ∷ []) (codes "wait 0" ∷ codes "wait 0" ∷ codes "connect 1" ∷ codes "finish 1" ∷ codes "wait 0" ∷ codes "read 1" ∷ codes "close 1" ∷ []) ≡ true
  pub first_ended : does (over (connected (idle 0 ∷ End ∷ []))) (codes "1 start =0" ∷ codes "1 tcp_connect =1" ∷ codes "1 brecv EPIPE" ∷ codes "1 end EPIPE" ∷ codes "freed 1" ∷ codes "summary status=1 errno=EPIPE turns=3 rounds=3 closing=0 made=1 gone=1 lacks=0" ∷ []) (codes "wait 0" ∷ codes "wait 0" ∷ codes "connect 1" ∷ codes "finish 1" ∷ codes "wait 0" ∷ codes "read 1" ∷ codes "close 1" ∷ []) ≡ true
  pub second_ended : does (over (connected (idle 0 ∷ Came (codes "ab") ∷ idle 0 ∷ End ∷ []))) (codes "1 start =0" ∷ codes "1 tcp_connect =1" ∷ codes "1 brecv EPIPE" ∷ codes "1 end EPIPE" ∷ codes "freed 1" ∷ codes "summary status=1 errno=EPIPE turns=3 rounds=4 closing=0 made=1 gone=1 lacks=0" ∷ []) (codes "wait 0" ∷ codes "wait 0" ∷ codes "connect 1" ∷ codes "finish 1" ∷ codes "wait 0" ∷ codes "read 1" ∷ codes "wait 0" ∷ codes "read 1" ∷ codes "close 1" ∷ []) ≡ true
  pub wait_failed : does (over (connected (Failed faults.Other ∷ []))) (codes "1 start =0" ∷ codes "1 tcp_connect =1" ∷ codes "1 brecv ECANCELED" ∷ codes "1 end ECANCELED" ∷ codes "freed 1" ∷ codes "summary status=9 errno=none turns=2 rounds=3 closing=1 made=1 gone=1 lacks=0" ∷ []) (codes "wait 0" ∷ codes "wait 0" ∷ codes "connect 1" ∷ codes "finish 1" ∷ codes "wait 0" ∷ codes "close 1" ∷ []) ≡ true
