-- A stack that takes messages.
use Rattle.std.specs.Prelude.{◌≤◌, length}
use Rattle.dill_stack.specs.declared.want.Want.TheVariants.{Message}
use Rattle.dill_stack.specs.Answering.{HasRoom}
use Rattle.dill_stack.specs.Needs.{unread_bound}
use Rattle.link_bench.specs.declared.stacks.Look.{Look}
use Rattle.link_bench.specs.declared.stacks.Look.TheVariants as look
use Rattle.link_bench.specs.declared.stacks.Taker.{Taker}

-- Messages of this size were asked for before.
abbrev pub IsReserved : Taker → Type 0
IsReserved t = t.limit ≤ t.stack.most

-- Besides, there is room for the next one.
abbrev pub IsSet : Taker → Type 0
IsSet t = IsReserved t × HasRoom (Message t.limit) t.room

-- Besides, there is room for another 4,096 unread bytes.
abbrev pub IsReady : Taker → Type 0
IsReady t = IsSet t × (length t.stack.held.unread ≤ unread_bound t.stack.most)

-- After a look that wasn't refused it takes the next message, and a piece where nothing whole is there.
abbrev pub GoesOn : Look → Taker → Type 0
GoesOn (look.Message count) t = IsSet t
GoesOn look.Short t = IsReady t
GoesOn look.Refused t = Unit {0}
