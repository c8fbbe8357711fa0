-- Worked runs of what the kernel tells: moments, ready links, listeners that fail, and want of memory.
use Rattle.std.specs.Prelude.{◌≡◌, true, false, ℕ, List, [], ◌∷◌, replicate, codes, None}
use Rattle.dill_base.specs.declared.deadline.Deadline.TheVariants.{Never, At}
use Rattle.dill_calls.specs.declared.call.Call.TheVariants as calls
use Rattle.dill_kernel.specs.declared.replies.KernelFault.TheVariants as faults
use Rattle.dill_kernel.specs.declared.replies.KernelReply.{KernelReply}
use Rattle.dill_kernel.specs.declared.replies.KernelReply.TheVariants.{Woke, Done, NotYet, Came, Failed}
use Rattle.dill_rows.specs.Play.{Does, Tries, Text}
use Rattle.dill_rows.specs.Playing.{plain, played_over, replayed, idle, place, connected}
use Rattle.dill_rows.specs.Runs.{listed, does, text}
use Rattle.dill_rows.specs.Stories.{story, tells}

abbrev pub sleeps : ℕ → List ℕ → Text
sleeps program args = plain 0 (Does (calls.Msleep (At 5)) ∷ Does calls.Now ∷ Does (calls.Msleep (At 6)) ∷ Does calls.Now ∷ [])

abbrev pub looks : ℕ → List ℕ → Text
looks program args = plain 0 (replicate 70 (Does calls.Now))

-- A wait that comes back early tells nothing new, and the moment never falls. A round has 64 turns at most, and the next wait doesn't last while somebody has an answer.
pub record MomentsAndTurns : Type 0 where
  pub moments : does (replayed (idle 0 ∷ idle 5 ∷ idle 3 ∷ idle 6 ∷ []) 40 sleeps) (codes "1 start =0" ∷ codes "1 msleep =0" ∷ codes "1 now =5" ∷ codes "1 msleep =0" ∷ codes "1 now =6" ∷ codes "1 end ok" ∷ codes "summary status=0 errno=none turns=5 rounds=4 closing=0 made=0 gone=0 lacks=0" ∷ []) (codes "wait 0" ∷ codes "wait until 5" ∷ codes "wait until 6" ∷ codes "wait until 6" ∷ []) ≡ true
  pub turns : does (played_over listed (idle 0 ∷ idle 0 ∷ []) false 1000000000 120 looks) (codes "summary status=0 errno=none turns=71 rounds=2 closing=0 made=0 gone=0 lacks=0" ∷ []) (codes "wait 0" ∷ codes "wait 0" ∷ []) ≡ true

abbrev pub reads_one : ℕ → List ℕ → Text
reads_one program args = plain 0 (Does (calls.TcpConnect (place 9) Never) ∷ Does (calls.Brecv 1 1 Never) ∷ [])

abbrev pub dials : ℕ → List ℕ → Text
dials program args = plain 0 (Does (calls.TcpConnect (place 9) Never) ∷ [])

abbrev pub dials_late : ℕ → List ℕ → Text
dials_late program args = plain 0 (Tries (calls.TcpConnect (place 9) (At 5)) ∷ [])

-- link 7 isn't there, and link 1 is ready for writing alone
abbrev pub told_others : KernelReply
told_others = Woke 0 (record { link = 7; read = true; write = true } ∷ record { link = 1; read = false; write = true } ∷ [])

abbrev pub told_reading : KernelReply
told_reading = Woke 0 (record { link = 1; read = true; write = false } ∷ [])

-- A link that isn't there is passed over, and a cold one is tried again once it is told. A connection that isn't made in time is closed.
pub record ReadyLinks : Type 0 where
  pub reading : does (replayed (connected (idle 0 ∷ NotYet ∷ told_others ∷ told_reading ∷ Came (codes "a") ∷ [])) 40 reads_one) (codes "1 start =0" ∷ codes "1 tcp_connect =1" ∷ codes "1 brecv #1:61" ∷ codes "1 end ok" ∷ codes "freed 1" ∷ codes "summary status=0 errno=none turns=3 rounds=5 closing=0 made=1 gone=1 lacks=0" ∷ []) (codes "wait 0" ∷ codes "wait 0" ∷ codes "connect 1" ∷ codes "finish 1" ∷ codes "wait 0" ∷ codes "read 1" ∷ codes "wait" ∷ codes "wait" ∷ codes "read 1" ∷ codes "close 1" ∷ []) ≡ true
  pub connecting : does (replayed (idle 0 ∷ idle 0 ∷ Done ∷ NotYet ∷ told_others ∷ Done ∷ []) 40 dials) (codes "1 start =0" ∷ codes "1 tcp_connect =1" ∷ codes "1 end ok" ∷ codes "freed 1" ∷ codes "summary status=0 errno=none turns=2 rounds=3 closing=0 made=1 gone=1 lacks=0" ∷ []) (codes "wait 0" ∷ codes "wait 0" ∷ codes "connect 1" ∷ codes "finish 1" ∷ codes "wait" ∷ codes "finish 1" ∷ codes "close 1" ∷ []) ≡ true
  pub late : does (replayed (idle 0 ∷ idle 0 ∷ Done ∷ NotYet ∷ idle 5 ∷ []) 40 dials_late) (codes "1 start =0" ∷ codes "1 tcp_connect ETIMEDOUT" ∷ codes "1 end ok" ∷ codes "summary status=0 errno=none turns=2 rounds=3 closing=0 made=0 gone=0 lacks=0" ∷ []) (codes "wait 0" ∷ codes "wait 0" ∷ codes "connect 1" ∷ codes "finish 1" ∷ codes "wait until 5" ∷ codes "close 1" ∷ []) ≡ true

abbrev pub listens : ℕ → List ℕ → Text
listens program args = plain 0 (Tries (calls.TcpListen (place 9) 1) ∷ Tries (calls.TcpListen (place 9) 1) ∷ Tries (calls.TcpConnect (place 9) Never) ∷ [])

abbrev pub accepts_again : ℕ → List ℕ → Text
accepts_again program args = plain 0 (Does (calls.TcpListen (place 9) 1) ∷ Tries (calls.TcpAccept 1 Never) ∷ Does (calls.TcpAccept 1 Never) ∷ [])

-- The faults of a listen and of an accept; a link's number is used up only where the link was made, and a listener lives on.
pub record ListenersThatFail : Type 0 where
  pub listen : does (replayed (idle 0 ∷ idle 0 ∷ Failed faults.InUse ∷ idle 0 ∷ Failed faults.Other ∷ idle 0 ∷ Failed faults.InUse ∷ []) 40 listens) (codes "1 start =0" ∷ codes "1 tcp_listen EADDRINUSE" ∷ codes "1 tcp_listen EADDRNOTAVAIL" ∷ codes "1 tcp_connect EADDRINUSE" ∷ codes "1 end ok" ∷ codes "summary status=0 errno=none turns=4 rounds=4 closing=0 made=0 gone=0 lacks=0" ∷ []) (codes "wait 0" ∷ codes "wait 0" ∷ codes "listen 1" ∷ codes "wait 0" ∷ codes "listen 1" ∷ codes "wait 0" ∷ codes "connect 1" ∷ []) ≡ true
  pub accept : does (replayed (idle 0 ∷ idle 0 ∷ Done ∷ idle 0 ∷ Failed faults.Other ∷ idle 0 ∷ Done ∷ []) 40 accepts_again) (codes "1 start =0" ∷ codes "1 tcp_listen =1" ∷ codes "1 tcp_accept ECONNRESET" ∷ codes "1 tcp_accept =2" ∷ codes "1 end ok" ∷ codes "freed 2" ∷ codes "freed 1" ∷ codes "summary status=0 errno=none turns=4 rounds=4 closing=0 made=2 gone=2 lacks=0" ∷ []) (codes "wait 0" ∷ codes "wait 0" ∷ codes "listen 1" ∷ codes "wait 0" ∷ codes "accept 1 2" ∷ codes "wait 0" ∷ codes "accept 1 2" ∷ codes "close 1" ∷ codes "close 2" ∷ []) ≡ true

abbrev pub wants : ℕ → List ℕ → Text
wants program args = plain 0 (Tries (calls.TcpListen (place 9) 1) ∷ Does (calls.TcpListen (place 9) 1) ∷ Tries (calls.TcpAccept 1 Never) ∷ Tries (calls.TcpConnect (place 9) Never) ∷ [])

-- the kernel finds no memory for a listener, a side and a connection
abbrev pub without_memory : List KernelReply
without_memory = idle 0 ∷ idle 0 ∷ Failed faults.NoMemory ∷ idle 0 ∷ Done ∷ idle 0 ∷ Failed faults.NoMemory ∷ idle 0 ∷ Failed faults.NoMemory ∷ []

abbrev pub wanting_lines : List (List ℕ)
wanting_lines = codes "1 start =0" ∷ codes "1 tcp_listen ENOMEM" ∷ codes "1 tcp_listen =1" ∷ codes "1 tcp_accept ENOMEM" ∷ codes "1 tcp_connect ENOMEM" ∷ codes "1 end ok" ∷ codes "freed 1" ∷ codes "summary status=0 errno=none turns=5 rounds=5 closing=0 made=1 gone=1 lacks=3" ∷ []

abbrev pub wanting_asks : List (List ℕ)
wanting_asks = codes "wait 0" ∷ codes "wait 0" ∷ codes "listen 1" ∷ codes "wait 0" ∷ codes "listen 1" ∷ codes "wait 0" ∷ codes "accept 1 2" ∷ codes "wait 0" ∷ codes "connect 2" ∷ codes "close 1" ∷ []

-- Each want of memory that the kernel tells is counted.
pub record KernelWantsMemory : Type 0 where
  pub run : does (replayed without_memory 50 wants) wanting_lines wanting_asks ≡ true
  pub told : tells (story true 1000000000 120 wants without_memory [] None) (text wanting_lines) wanting_asks ≡ true
