-- Runs of programs that are lists of calls.
use Rattle.std.specs.Prelude.{Bool, true, false, ℕ, List, [], ◌∷◌, get_or, replicate, Option, Some}
use Rattle.rand_core.specs.Stream.{Stream}
use Rattle.dill_base.specs.declared.status.Address.{Address}
use Rattle.dill_kernel.specs.declared.replies.KernelReply.{KernelReply}
use Rattle.dill_kernel.specs.declared.replies.KernelReply.TheVariants.{Woke, Done}
use Rattle.dill_kernel.specs.declared.replies.KernelAsk.{KernelAsk}
use Rattle.dill_loop.specs.Network.{Network, opening}
use Rattle.dill_loop.specs.Steps.{network_reply, network_after}
use Rattle.dill_rows.specs.Play.{Item, Text, Play, playing, first_of}
use Rattle.dill_rows.specs.Runs.{Outside, Run, clock, listed, run_within, begun}

-- a program of so many arguments that does nothing last
abbrev pub plain : ℕ → List Item → Text
plain count body = record { count = count; body = body; last = [] }

-- a number of a list
abbrev pub nth : List ℕ → ℕ → ℕ
nth xs n = get_or xs n 0

-- random numbers that are all 0
abbrev pub zeros : Stream
zeros = record { u32_after = λ calls. 0; u64_after = λ calls. 0; bytes_after = λ calls n. replicate n 0 }

-- a run of so many steps with a budget; program 0 is `main`
abbrev pub played_over : {N : Type 0} → Outside N → N → Bool → ℕ → ℕ → (ℕ → List ℕ → Text) → Run Play N
played_over outside net traced most steps table = run_within (playing table) outside traced most steps (begun (first_of (table 0 [])) zeros net)

-- traced, without links
abbrev pub played : ℕ → (ℕ → List ℕ → Text) → Run Play ℕ
played steps table = played_over clock 0 true 1000000000 steps table

-- untraced, without links, with a budget
abbrev pub untraced : ℕ → ℕ → (ℕ → List ℕ → Text) → Run Play ℕ
untraced most steps table = played_over clock 0 false most steps table

-- traced, over a list of replies
abbrev pub replayed : List KernelReply → ℕ → (ℕ → List ℕ → Text) → Run Play (List KernelReply)
replayed replies steps table = played_over listed replies true 1000000000 steps table

-- a wait that tells the moment and nothing ready
abbrev pub idle : ℕ → KernelReply
idle moment = Woke moment []

abbrev pub place : ℕ → Address
place port = record { ip = 127 ∷ 0 ∷ 0 ∷ 1 ∷ []; port = port }

-- up to the finish of a connection: two rounds
abbrev pub connected : List KernelReply → List KernelReply
connected rest = idle 0 ∷ idle 0 ∷ Done ∷ Done ∷ rest

-- the network in memory as a function
abbrev pub loop_says : Network → KernelAsk → Option KernelReply
loop_says net ask = Some (network_reply net ask)

abbrev pub loop_net : Outside Network
loop_net = record { says = loop_says; goes = network_after }

-- traced or not, over the network in memory, which gives at most 4,096 bytes at once, with a budget
abbrev pub looped : Bool → ℕ → ℕ → (ℕ → List ℕ → Text) → Run Play Network
looped traced most steps table = played_over loop_net (opening 4096) traced most steps table
