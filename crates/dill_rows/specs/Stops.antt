-- Worked runs of stops, and of what is asked of the kernel and what isn't.
use Rattle.std.specs.Prelude.{◌≡◌, true, ℕ, zero, List, [], ◌∷◌, codes, None}
use Rattle.dill_base.specs.declared.deadline.Deadline.TheVariants.{Never, At}
use Rattle.dill_calls.specs.declared.call.Call.TheVariants as calls
use Rattle.dill_kernel.specs.declared.replies.KernelFault.TheVariants as faults
use Rattle.dill_kernel.specs.declared.replies.KernelReply.{KernelReply}
use Rattle.dill_kernel.specs.declared.replies.KernelReply.TheVariants.{Done, NotYet, Came, Took, Failed}
use Rattle.dill_rows.specs.Play.{Item, Does, Tries, Text}
use Rattle.dill_rows.specs.Playing.{plain, played, played_over, replayed, idle, place, connected}
use Rattle.dill_rows.specs.Runs.{listed, prints, does, text}
use Rattle.dill_rows.specs.Stories.{story, tells}

abbrev pub closes : ℕ → List ℕ → Text
closes program args = plain 0 (Does (calls.TcpConnect (place 9) Never) ∷ Does (calls.TcpClose 1 Never) ∷ [])

-- What the closing of the root gives up is noted before the first turn behind the stop.
pub record RootClosingNotes : Type 0 where
  pub wait_failed : does (replayed (connected (Failed faults.Other ∷ [])) 40 closes) (codes "1 start =0" ∷ codes "1 tcp_connect =1" ∷ codes "freed 1" ∷ codes "1 tcp_close ECANCELED" ∷ codes "1 end ECANCELED" ∷ codes "summary status=9 errno=none turns=2 rounds=3 closing=1 made=1 gone=1 lacks=0" ∷ []) (codes "wait 0" ∷ codes "wait 0" ∷ codes "connect 1" ∷ codes "finish 1" ∷ codes "wait 0" ∷ codes "close 1" ∷ []) ≡ true
  pub spent : does (played_over listed (connected []) true 4 40 closes) (codes "1 start =0" ∷ codes "1 tcp_connect =1" ∷ codes "freed 1" ∷ codes "1 tcp_close ECANCELED" ∷ codes "1 end ECANCELED" ∷ codes "summary status=7 errno=none turns=2 rounds=2 closing=1 made=1 gone=1 lacks=0" ∷ []) (codes "wait 0" ∷ codes "wait 0" ∷ codes "connect 1" ∷ codes "finish 1" ∷ codes "close 1" ∷ []) ≡ true

-- a client of WebSocket that receives a ping and a text, and then does this
abbrev pub pinged : List Item → ℕ → List ℕ → Text
pinged items program args = plain 0 (Does (calls.TcpConnect (place 9) Never) ∷ Does (calls.WsAttachNohttp 1 true true) ∷ Does (calls.Mrecv 2 9 Never) ∷ items)

-- the ping and the text come at once
abbrev pub ping_comes : List KernelReply → List KernelReply
ping_comes rest = connected (idle 0 ∷ Came (137 ∷ 0 ∷ 129 ∷ 1 ∷ 97 ∷ []) ∷ rest)

-- A pong that is still queued doesn't keep a run from being stuck, and isn't written after a stop or after `main` has ended; while the run goes on no wait lasts before its write.
pub record QueuedPongs : Type 0 where
  pub stuck : does (replayed (ping_comes []) 40 (pinged (Does (calls.Msleep Never) ∷ []))) (codes "1 start =0" ∷ codes "1 tcp_connect =1" ∷ codes "moved 1 2" ∷ codes "1 ws_attach_nohttp =2" ∷ codes "1 mrecv #1:61" ∷ codes "waiting 1 msleep" ∷ codes "1 msleep ECANCELED" ∷ codes "1 end ECANCELED" ∷ codes "freed 2" ∷ codes "summary status=8 errno=none turns=4 rounds=3 closing=1 made=2 gone=2 lacks=0" ∷ []) (codes "wait 0" ∷ codes "wait 0" ∷ codes "connect 1" ∷ codes "finish 1" ∷ codes "wait 0" ∷ codes "read 1" ∷ codes "close 1" ∷ []) ≡ true
  pub ended : does (replayed (ping_comes []) 40 (pinged [])) (codes "1 start =0" ∷ codes "1 tcp_connect =1" ∷ codes "moved 1 2" ∷ codes "1 ws_attach_nohttp =2" ∷ codes "1 mrecv #1:61" ∷ codes "1 end ok" ∷ codes "freed 2" ∷ codes "summary status=0 errno=none turns=4 rounds=3 closing=0 made=2 gone=2 lacks=0" ∷ []) (codes "wait 0" ∷ codes "wait 0" ∷ codes "connect 1" ∷ codes "finish 1" ∷ codes "wait 0" ∷ codes "read 1" ∷ codes "close 1" ∷ []) ≡ true
  pub written : does (replayed (ping_comes (idle 0 ∷ Took 6 ∷ idle 5 ∷ [])) 40 (pinged (Does (calls.Msleep (At 5)) ∷ []))) (codes "1 start =0" ∷ codes "1 tcp_connect =1" ∷ codes "moved 1 2" ∷ codes "1 ws_attach_nohttp =2" ∷ codes "1 mrecv #1:61" ∷ codes "1 msleep =0" ∷ codes "1 end ok" ∷ codes "freed 2" ∷ codes "summary status=0 errno=none turns=5 rounds=5 closing=0 made=2 gone=2 lacks=0" ∷ []) (codes "wait 0" ∷ codes "wait 0" ∷ codes "connect 1" ∷ codes "finish 1" ∷ codes "wait 0" ∷ codes "read 1" ∷ codes "wait 0" ∷ codes "write 1 #6:8a8000000000" ∷ codes "wait until 5" ∷ codes "close 1" ∷ []) ≡ true

abbrev pub refused_beside : ℕ → List ℕ → Text
refused_beside zero args = plain 0 (Does (calls.TcpConnect (place 9) Never) ∷ Does (calls.Go 1 []) ∷ Does (calls.Msleep (At 5)) ∷ Tries (calls.Brecv 1 3 Never) ∷ Tries (calls.Mrecv 1 3 Never) ∷ Does (calls.Msleep (At 9)) ∷ [])
refused_beside program args = plain 0 (Does (calls.Brecv 1 3 Never) ∷ [])

-- A call that is refused makes no direction hot: the link that had nothing isn't read again.
pub record RefusedHeatsNothing : Type 0 where
  pub run : does (replayed (connected (idle 0 ∷ NotYet ∷ idle 5 ∷ idle 9 ∷ [])) 50 refused_beside) (codes "1 start =0" ∷ codes "1 tcp_connect =1" ∷ codes "1 go =2" ∷ codes "2 start =0" ∷ codes "1 msleep =0" ∷ codes "1 brecv EBUSY" ∷ codes "1 mrecv ENOTSUP" ∷ codes "1 msleep =0" ∷ codes "1 end ok" ∷ codes "2 brecv ECANCELED" ∷ codes "2 end ECANCELED" ∷ codes "freed 2" ∷ codes "freed 1" ∷ codes "summary status=0 errno=none turns=9 rounds=5 closing=0 made=2 gone=2 lacks=0" ∷ []) (codes "wait 0" ∷ codes "wait 0" ∷ codes "connect 1" ∷ codes "finish 1" ∷ codes "wait 0" ∷ codes "read 1" ∷ codes "wait until 5" ∷ codes "wait until 9" ∷ codes "close 1" ∷ []) ≡ true

abbrev pub connects_again : ℕ → List ℕ → Text
connects_again program args = plain 0 (Does (calls.TcpConnect (place 9) Never) ∷ Tries (calls.Brecv 1 1 Never) ∷ Does (calls.TcpConnect (place 9) Never) ∷ [])

-- A listed reply that doesn't fit its ask is a failure, and is used up; a close takes none.
pub record RepliesUsedUp : Type 0 where
  pub read : tells (story true 1000000000 120 connects_again (connected (idle 0 ∷ Took 3 ∷ idle 0 ∷ Done ∷ Done ∷ [])) [] None) (text (codes "1 start =0" ∷ codes "1 tcp_connect =1" ∷ codes "1 brecv ECONNRESET" ∷ codes "1 tcp_connect =2" ∷ codes "1 end ok" ∷ codes "freed 2" ∷ codes "freed 1" ∷ codes "summary status=0 errno=none turns=4 rounds=4 closing=0 made=2 gone=2 lacks=0" ∷ [])) (codes "wait 0" ∷ codes "wait 0" ∷ codes "connect 1" ∷ codes "finish 1" ∷ codes "wait 0" ∷ codes "read 1" ∷ codes "wait 0" ∷ codes "connect 2" ∷ codes "finish 2" ∷ codes "close 1" ∷ codes "close 2" ∷ []) ≡ true
  pub wait : tells (story true 1000000000 60 connects_again (Done ∷ []) [] None) (text (codes "1 start =0" ∷ codes "1 tcp_connect ECANCELED" ∷ codes "1 end ECANCELED" ∷ codes "summary status=9 errno=none turns=0 rounds=1 closing=2 made=0 gone=0 lacks=0" ∷ [])) (codes "wait 0" ∷ []) ≡ true

abbrev pub both_wait : ℕ → List ℕ → Text
both_wait zero args = plain 0 (Does calls.Chmake ∷ Does (calls.Go 1 []) ∷ Does (calls.Chrecv 2 1 Never) ∷ [])
both_wait program args = plain 0 (Does (calls.Msleep Never) ∷ [])

-- All that wait in a stuck run are told, the lower coroutine first, before anybody is cancelled.
pub record AllWaitersTold : Type 0 where
  pub run : prints (played 40 both_wait) (codes "1 start =0" ∷ codes "1 chmake =1,2" ∷ codes "1 go =3" ∷ codes "2 start =0" ∷ codes "waiting 1 chrecv" ∷ codes "waiting 2 msleep" ∷ codes "1 chrecv ECANCELED" ∷ codes "1 end ECANCELED" ∷ codes "2 msleep ECANCELED" ∷ codes "2 end ECANCELED" ∷ codes "freed 3" ∷ codes "freed 2" ∷ codes "freed 1" ∷ codes "summary status=8 errno=none turns=4 rounds=1 closing=2 made=3 gone=3 lacks=0" ∷ []) ≡ true

abbrev pub closes_and_sleeps : ℕ → List ℕ → Text
closes_and_sleeps program args = plain 0 (Does (calls.TcpConnect (place 9) Never) ∷ Does (calls.Hclose 1) ∷ Does (calls.Msleep Never) ∷ [])

-- A run isn't stuck before the close that is due was made.
pub record ClosedBeforeStuck : Type 0 where
  pub run : does (replayed (connected (idle 0 ∷ [])) 40 closes_and_sleeps) (codes "1 start =0" ∷ codes "1 tcp_connect =1" ∷ codes "freed 1" ∷ codes "1 hclose =0" ∷ codes "waiting 1 msleep" ∷ codes "1 msleep ECANCELED" ∷ codes "1 end ECANCELED" ∷ codes "summary status=8 errno=none turns=3 rounds=3 closing=1 made=1 gone=1 lacks=0" ∷ []) (codes "wait 0" ∷ codes "wait 0" ∷ codes "connect 1" ∷ codes "finish 1" ∷ codes "wait 0" ∷ codes "close 1" ∷ []) ≡ true
