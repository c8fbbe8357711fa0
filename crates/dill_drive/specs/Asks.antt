-- What a core asks of the kernel, and what is replied: the bytes of a write are offered beside the ask, and a read is always of so many bytes.
use Rattle.std.specs.Prelude.{◌<◌, ℕ, List, length, Option, Bool, false}
use Rattle.rand_core.specs.Stream.{Stream}
use Rattle.dill_base.specs.Maps.{if_some}
use Rattle.dill_kernel.specs.declared.replies.KernelAsk.{KernelAsk}
use Rattle.dill_kernel.specs.declared.replies.KernelAsk.TheVariants as kernel
use Rattle.dill_kernel.specs.declared.replies.KernelReply.{KernelReply}
use Rattle.dill_kernel.specs.declared.replies.KernelReply.TheVariants as told
use Rattle.dill_kernel.specs.Entry.{Entry, ReplyHasCause, fits, is_failure}
use Rattle.dill_drive.specs.declared.asks.Ask.{Ask}
use Rattle.dill_drive.specs.declared.asks.Ask.TheVariants as asks
use Rattle.dill_drive.specs.declared.asks.Reply.{Reply}
use Rattle.dill_drive.specs.declared.asks.Reply.TheVariants as replies
use Rattle.dill_drive.specs.Machine.{Machine}

-- the kernel's call that an ask is, where these bytes are offered
abbrev pub asks_for : Ask → List ℕ → KernelAsk
asks_for (asks.Close link) bytes = kernel.Close link
asks_for (asks.Listen link address backlog) bytes = kernel.Listen link address backlog
asks_for (asks.Connect link address) bytes = kernel.Connect link address
asks_for (asks.Finish link) bytes = kernel.Finish link
asks_for (asks.Accept listener link) bytes = kernel.Accept listener link
asks_for (asks.Write link) bytes = kernel.Write link bytes
asks_for (asks.Shut link) bytes = kernel.Shut link
asks_for (asks.Read link) bytes = kernel.Read link 4096

-- a write offers something
abbrev pub IsOffered : Ask → List ℕ → Type 0
IsOffered (asks.Write link) bytes = 0 < length bytes
IsOffered other bytes = Unit {0}

-- the kernel's reply that is heard
abbrev pub said : Reply → KernelReply
said replies.Done = told.Done
said replies.NotYet = told.NotYet
said (replies.Came bytes) = told.Came bytes.now
said (replies.Took count) = told.Took count
said replies.End = told.End
said (replies.Failed fault) = told.Failed fault

-- this may be the reply to an ask that is due
abbrev pub fits_due : Option KernelAsk → KernelReply → Bool
fits_due due reply = if_some due false (λ ask. fits ask reply)

-- after the reply to the ask that is due
abbrev pub hear_due : {S : Type 0} → Machine S → S → KernelReply → Stream → S × Stream
hear_due m state reply keys = if_some (m.next_try state) (state, keys) (λ ask. m.hear state ask reply keys)

-- One call of a kernel, which raised its count of failures where it failed, and nowhere else.
abbrev pub Counted : {K : Type 0} → (K → Entry → K → Type 0) → (K → ℕ) → K → Entry → K → Type 0
Counted step faults old entry new = step old entry new × ReplyHasCause (faults old) (faults new) (is_failure entry.reply)
