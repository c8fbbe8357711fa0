-- Small sessions in the network in memory, worked by hand.
use Rattle.std.specs.Prelude.{◌≡◌, ℕ, List, [], ◌∷◌, true, false, length, replicate}
use Rattle.dill_base.specs.declared.status.Address.{Address}
use Rattle.dill_kernel.specs.declared.ready.Limit.TheVariants.{NoWait, Until, Forever}
use Rattle.dill_kernel.specs.declared.ready.Ready.{Ready}
use Rattle.dill_kernel.specs.declared.replies.KernelAsk.{KernelAsk}
use Rattle.dill_kernel.specs.declared.replies.KernelAsk.TheVariants as ask
use Rattle.dill_kernel.specs.declared.replies.KernelFault.TheVariants.{Refused, InUse, Reset, Other}
use Rattle.dill_kernel.specs.declared.replies.KernelReply.{KernelReply}
use Rattle.dill_kernel.specs.declared.replies.KernelReply.TheVariants.{Woke, Done, NotYet, Came, Took, End, Failed}
use Rattle.dill_loop.specs.Network.{Network, opening, capacity}
use Rattle.dill_loop.specs.Steps.{network_reply, network_after}

-- the replies to some asks, one after the other
abbrev pub replies : Network → List KernelAsk → List KernelReply
replies net [] = []
replies net (a ∷ asks) = network_reply net a ∷ replies (network_after net a) asks

-- the network after them
abbrev pub after : Network → List KernelAsk → Network
after net [] = net
after net (a ∷ asks) = after (network_after net a) asks

-- 127.0.0.1:7000
abbrev pub home : Address
home = record { ip = 127 ∷ 0 ∷ 0 ∷ 1 ∷ []; port = 7000 }

-- 127.0.0.1:7001
abbrev pub elsewhere : Address
elsewhere = record { ip = 127 ∷ 0 ∷ 0 ∷ 1 ∷ []; port = 7001 }

-- ready for reading
abbrev pub to_read : ℕ → Ready
to_read link = record { link = link; read = true; write = false }

-- ready for writing
abbrev pub to_write : ℕ → Ready
to_write link = record { link = link; read = false; write = true }

-- ready for both
abbrev pub to_both : ℕ → Ready
to_both link = record { link = link; read = true; write = true }

-- reads of at most three bytes
abbrev pub net : Network
net = opening 3

-- link 1 listens for one at a time
abbrev pub listening : Network
listening = after net (ask.Listen 1 home 1 ∷ [])

-- link 2 has connected, and the listener's mark was told
abbrev pub dialed : Network
dialed = after listening (ask.Connect 2 home ∷ ask.Wait NoWait ∷ [])

-- link 3 is the other end
abbrev pub joined : Network
joined = after dialed (ask.Accept 1 3 ∷ [])

-- link 2 has written as much as a direction holds, and the mark of link 3 was told
abbrev pub filled : Network
filled = after joined (ask.Write 2 (replicate capacity 7) ∷ ask.Wait NoWait ∷ [])

-- waits: the clock, and the marks
pub record WaitRows : Type 0 where
  pub none : replies net (ask.Wait NoWait ∷ ask.Wait (Until 5) ∷ ask.Wait (Until 3) ∷ ask.Wait NoWait ∷ []) ≡ Woke 0 [] ∷ Woke 5 [] ∷ Woke 5 [] ∷ Woke 5 [] ∷ []
  pub for_ever : replies net (ask.Wait Forever ∷ ask.Wait NoWait ∷ []) ≡ Failed Other ∷ Woke 0 [] ∷ []
  pub told_once : replies listening (ask.Connect 2 home ∷ ask.Wait (Until 9) ∷ ask.Wait NoWait ∷ []) ≡ Done ∷ Woke 0 (to_read 1 ∷ []) ∷ Woke 0 [] ∷ []
  pub first_told : length (after (record net { marks = replicate 257 (to_read 1) }) (ask.Wait NoWait ∷ [])).marks ≡ 1
  pub in_order : replies joined (ask.Write 3 (5 ∷ []) ∷ ask.Write 2 (6 ∷ []) ∷ ask.Close 1 ∷ ask.Wait Forever ∷ []) ≡ Took 1 ∷ Took 1 ∷ Done ∷ Woke 0 (to_read 2 ∷ to_read 3 ∷ []) ∷ []

-- links that are made or refused
pub record LinkRows : Type 0 where
  pub in_use : replies listening (ask.Listen 2 home 1 ∷ ask.Listen 2 elsewhere 1 ∷ []) ≡ Failed InUse ∷ Done ∷ []
  pub there : replies listening (ask.Listen 1 elsewhere 1 ∷ ask.Connect 1 home ∷ ask.Accept 1 1 ∷ []) ≡ Failed Other ∷ Failed Other ∷ Failed Other ∷ []
  pub refused : replies listening (ask.Connect 2 elsewhere ∷ ask.Connect 2 home ∷ ask.Connect 3 home ∷ []) ≡ Failed Refused ∷ Done ∷ Failed Refused ∷ []
  pub finished : replies dialed (ask.Finish 2 ∷ ask.Finish 1 ∷ ask.Finish 9 ∷ []) ≡ Done ∷ Failed Other ∷ Failed Other ∷ []
  pub accepted : replies dialed (ask.Accept 1 3 ∷ ask.Accept 1 4 ∷ ask.Accept 2 4 ∷ []) ≡ Done ∷ NotYet ∷ Failed Other ∷ []
  pub room_again : replies joined (ask.Connect 4 home ∷ []) ≡ Done ∷ []
  pub other_sort : replies joined (ask.Read 1 9 ∷ ask.Write 1 (5 ∷ []) ∷ ask.Shut 1 ∷ ask.Read 9 9 ∷ ask.Shut 9 ∷ ask.Close 9 ∷ []) ≡ Failed Other ∷ Failed Other ∷ Failed Other ∷ Failed Other ∷ Failed Other ∷ Done ∷ []

-- bytes that are written and read, and an end
pub record ByteRows : Type 0 where
  pub moved : replies joined (ask.Write 2 (5 ∷ 6 ∷ 7 ∷ 8 ∷ []) ∷ ask.Wait Forever ∷ ask.Read 3 9 ∷ ask.Read 3 9 ∷ ask.Read 3 9 ∷ []) ≡ Took 4 ∷ Woke 0 (to_read 3 ∷ []) ∷ Came (5 ∷ 6 ∷ 7 ∷ []) ∷ Came (8 ∷ []) ∷ NotYet ∷ []
  pub small_buffer : replies joined (ask.Write 2 (5 ∷ 6 ∷ []) ∷ ask.Read 3 1 ∷ []) ≡ Took 2 ∷ Came (5 ∷ []) ∷ []
  pub queued_no_mark : replies dialed (ask.Write 2 (5 ∷ []) ∷ ask.Wait NoWait ∷ ask.Accept 1 3 ∷ ask.Read 3 9 ∷ []) ≡ Took 1 ∷ Woke 0 [] ∷ Done ∷ Came (5 ∷ []) ∷ []
  pub shut : replies joined (ask.Write 2 (5 ∷ []) ∷ ask.Shut 2 ∷ ask.Write 2 (6 ∷ []) ∷ ask.Wait NoWait ∷ ask.Read 3 9 ∷ ask.Read 3 9 ∷ ask.Write 3 (7 ∷ []) ∷ ask.Read 2 9 ∷ []) ≡ Took 1 ∷ Done ∷ Failed Reset ∷ Woke 0 (to_read 3 ∷ []) ∷ Came (5 ∷ []) ∷ End ∷ Took 1 ∷ Came (7 ∷ []) ∷ []

-- a direction that holds as much as it may
pub record FullRows : Type 0 where
  pub no_room : replies filled (ask.Write 2 (5 ∷ []) ∷ ask.Read 3 1 ∷ ask.Wait NoWait ∷ ask.Write 2 (5 ∷ 6 ∷ []) ∷ []) ≡ NotYet ∷ Came (7 ∷ []) ∷ Woke 0 (to_write 2 ∷ []) ∷ Took 1 ∷ []
  pub not_full : replies filled (ask.Read 3 1 ∷ ask.Wait NoWait ∷ ask.Read 3 1 ∷ ask.Wait NoWait ∷ []) ≡ Came (7 ∷ []) ∷ Woke 0 (to_write 2 ∷ []) ∷ Came (7 ∷ []) ∷ Woke 0 [] ∷ []

-- closed streams and listeners
pub record CloseRows : Type 0 where
  pub both_marks : replies joined (ask.Write 3 (5 ∷ []) ∷ ask.Close 3 ∷ ask.Wait NoWait ∷ ask.Write 2 (6 ∷ []) ∷ ask.Read 2 9 ∷ ask.Read 2 9 ∷ ask.Read 3 9 ∷ []) ≡ Took 1 ∷ Done ∷ Woke 0 (to_both 2 ∷ []) ∷ Failed Reset ∷ Came (5 ∷ []) ∷ End ∷ Failed Other ∷ []
  pub own_marks : replies joined (ask.Write 2 (5 ∷ []) ∷ ask.Close 3 ∷ ask.Wait NoWait ∷ []) ≡ Took 1 ∷ Done ∷ Woke 0 (to_both 2 ∷ []) ∷ []
  pub full_writer : replies filled (ask.Close 3 ∷ ask.Wait NoWait ∷ ask.Write 2 (6 ∷ []) ∷ []) ≡ Done ∷ Woke 0 (to_both 2 ∷ []) ∷ Failed Reset ∷ []
  pub listener : replies dialed (ask.Close 1 ∷ ask.Wait NoWait ∷ ask.Read 2 9 ∷ ask.Write 2 (6 ∷ []) ∷ ask.Connect 4 home ∷ ask.Listen 1 home 1 ∷ []) ≡ Done ∷ Woke 0 (to_both 2 ∷ []) ∷ End ∷ Failed Reset ∷ Failed Refused ∷ Done ∷ []
  pub connector_gone : replies dialed (ask.Write 2 (5 ∷ []) ∷ ask.Close 2 ∷ ask.Connect 4 home ∷ ask.Accept 1 3 ∷ ask.Read 3 9 ∷ ask.Read 3 9 ∷ []) ≡ Took 1 ∷ Done ∷ Failed Refused ∷ Done ∷ Came (5 ∷ []) ∷ End ∷ []
  pub nothing_left : (after joined (ask.Close 2 ∷ ask.Close 3 ∷ ask.Close 1 ∷ [])).pairs ≡ []
