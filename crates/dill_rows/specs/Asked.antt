-- Stories whose asks of the kernel are shown whole: addresses, backlogs, sizes, moments and bytes.
use Rattle.std.specs.Prelude.{◌≡◌, ℕ, List, [], ◌∷◌, ◌++◌, Option, Some, None, true, codes, length, replicate, filter_map}
use Rattle.std.specs.List.{last_or}
use Rattle.dill_base.specs.declared.deadline.Deadline.TheVariants.{Never, At}
use Rattle.dill_base.specs.declared.status.Address.{Address}
use Rattle.dill_calls.specs.declared.call.Call.TheVariants as calls
use Rattle.dill_kernel.specs.declared.ready.Limit.TheVariants.{NoWait, Until, Forever}
use Rattle.dill_kernel.specs.declared.replies.KernelAsk.{KernelAsk}
use Rattle.dill_kernel.specs.declared.replies.KernelAsk.TheVariants.{Wait, Listen, Connect, Finish, Accept, Write, Shut, Read, Close}
use Rattle.dill_kernel.specs.declared.replies.KernelFault.TheVariants as faults
use Rattle.dill_kernel.specs.declared.replies.KernelReply.{KernelReply}
use Rattle.dill_kernel.specs.declared.replies.KernelReply.TheVariants.{Done, NotYet, Came, Took, Failed}
use Rattle.dill_rows.specs.Play.{Does, Tries, Text}
use Rattle.dill_rows.specs.Playing.{plain, idle, place, connected}
use Rattle.dill_rows.specs.Stories.{story}
use Rattle.dill_rows.specs.Connecting.{receives}
use Rattle.dill_rows.specs.Sockets.{accepts}

-- what is asked in the story of `main` over these replies
abbrev pub asked : ℕ → (ℕ → List ℕ → Text) → List KernelReply → List KernelAsk
asked steps table replies = (story true 1000000000 steps table replies [] None).asks

-- where is listened, and where to the connection goes
abbrev pub here : Address
here = record { ip = 10 ∷ 0 ∷ 0 ∷ 1 ∷ []; port = 7000 }

abbrev pub away : Address
away = record { ip = 192 ∷ 168 ∷ 0 ∷ 2 ∷ []; port = 80 }

abbrev pub all_kinds : ℕ → List ℕ → Text
all_kinds program args = plain 0 (Does (calls.TcpListen here 16) ∷ Does (calls.TcpConnect away Never) ∷ Does (calls.Bsend 2 (codes "ab") Never) ∷ Does (calls.TcpDone 2 Never) ∷ Tries (calls.TcpAccept 1 (At 0)) ∷ Tries (calls.Brecv 2 5000 (At 9)) ∷ [])

abbrev pub sends_much : ℕ → List ℕ → Text
sends_much program args = plain 0 (Does (calls.TcpConnect (place 9) Never) ∷ Does (calls.Bsend 1 (replicate 65536 7 ++ 8 ∷ []) Never) ∷ [])

-- how many bytes a write offers, and the last of them
abbrev pub offers : KernelAsk → Option (ℕ × Option ℕ)
offers (Write link bytes) = Some (length bytes, last_or None bytes)
offers ask = None

-- Each ask with all that it carries; a read asks for 4,096 bytes, and a write offers the first 65,536 at most.
pub record AsksCarry : Type 0 where
  pub connection : asked 120 receives (connected (idle 0 ∷ Came (codes "ab") ∷ idle 0 ∷ Came (codes "cd") ∷ [])) ≡ Wait NoWait ∷ Wait NoWait ∷ Connect 1 (place 9) ∷ Finish 1 ∷ Wait NoWait ∷ Read 1 4096 ∷ Wait NoWait ∷ Read 1 4096 ∷ Close 1 ∷ []
  pub listener : asked 120 accepts (idle 0 ∷ idle 0 ∷ Done ∷ idle 0 ∷ NotYet ∷ Failed faults.Other ∷ []) ≡ Wait NoWait ∷ Wait NoWait ∷ Listen 1 (place 7000) 1 ∷ Wait NoWait ∷ Accept 1 2 ∷ Wait Forever ∷ Close 1 ∷ []
  pub all : asked 160 all_kinds (idle 0 ∷ idle 0 ∷ Done ∷ idle 0 ∷ Done ∷ Done ∷ idle 0 ∷ Took 2 ∷ idle 0 ∷ Done ∷ idle 0 ∷ NotYet ∷ idle 0 ∷ NotYet ∷ idle 9 ∷ []) ≡ Wait NoWait ∷ Wait NoWait ∷ Listen 1 here 16 ∷ Wait NoWait ∷ Connect 2 away ∷ Finish 2 ∷ Wait NoWait ∷ Write 2 (codes "ab") ∷ Wait NoWait ∷ Shut 2 ∷ Wait NoWait ∷ Accept 1 3 ∷ Wait NoWait ∷ Read 2 4096 ∷ Wait (Until 9) ∷ Close 1 ∷ Close 2 ∷ []
  pub long_write : filter_map offers (asked 120 sends_much (connected (idle 0 ∷ Took 65536 ∷ idle 0 ∷ Took 1 ∷ []))) ≡ (65536, Some 7) ∷ (1, Some 8) ∷ []
