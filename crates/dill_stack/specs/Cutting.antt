-- What comes to a stack in pieces, with looks between them of a receive, of a detach or of a handshake.
use Rattle.std.specs.Prelude.{◌≡◌, ℕ, List, [], ◌∷◌, ◌++◌, Bool, true, false}
use Rattle.rand_core.specs.Stream.{Stream}
use Rattle.dill_stack.specs.declared.want.Want.{Want}
use Rattle.dill_stack.specs.declared.want.ReadOut.TheVariants.{Need}
use Rattle.dill_stack.specs.Layers.{IsStanding}
use Rattle.dill_stack.specs.Formed.{IsFormed}
use Rattle.dill_stack.specs.Held.{Held, came, ended}
use Rattle.dill_stack.specs.Receiving.{Looked, read}
use Rattle.dill_stack.specs.Parting.{detach_finish}
use Rattle.dill_stack.specs.Greeting.{greeted}

-- a piece has come, or the peer has ended, or the call that waits has looked
pub data Event : Type 0 where
  Came : List ℕ → Event
  Ended : Event
  Look : Event

-- all that has come
abbrev pub all_of : List Event → List ℕ
all_of [] = []
all_of (Came v ∷ events) = v ++ all_of events
all_of (event ∷ events) = all_of events

-- the peer has ended
abbrev pub has_end : List Event → Bool
has_end [] = false
has_end (Ended ∷ events) = true
has_end (event ∷ events) = has_end events

-- how a call that waits looks at a stack
abbrev pub Looks : Type 0
Looks = Stream → Held → Looked

-- a handshake's look, which draws no random numbers
abbrev pub greet_look : Looks
greet_look random s = record { stack = (greeted s).stack; said = (greeted s).said; random = random }

-- a stack after one of these, and the random numbers that are left
abbrev pub after_event : Looks → Event → Held × Stream → Held × Stream
after_event look (Came v) now = (came v now.0, now.1)
after_event look Ended now = (ended now.0, now.1)
after_event look Look now = ((look now.1 now.0).stack, (look now.1 now.0).random)

-- the same after all of them
abbrev pub after_events : Looks → List Event → Held × Stream → Held × Stream
after_events look [] now = now
after_events look (event ∷ events) now = after_events look events (after_event look event now)

-- Each look awaits more.
abbrev pub AwaitMore : Looks → List Event → Held × Stream → Type 0
AwaitMore look [] now = Unit {0}
AwaitMore look (Came v ∷ events) now = AwaitMore look events (after_event look (Came v) now)
AwaitMore look (Ended ∷ events) now = AwaitMore look events (after_event look Ended now)
AwaitMore look (Look ∷ events) now = ((look now.1 now.0).said ≡ Need) × AwaitMore look events (after_event look Look now)

-- the look behind all of these
abbrev pub look_behind : Looks → List Event → Held × Stream → Looked
look_behind look events now = look (after_events look events now).1 (after_events look events now).0

-- However the same bytes are cut, wherever the peer's end comes among them, and wherever the call looked between them and awaited more, it is answered the same: with the same answer, bytes used, layers, pongs and random numbers.
abbrev pub LooksAlike : Looks → Held → Type 0
LooksAlike look s = (a b : List Event) (random : Stream) → all_of a ≡ all_of b → has_end a ≡ has_end b → AwaitMore look a (s, random) → AwaitMore look b (s, random) → look_behind look a (s, random) ≡ look_behind look b (s, random)

-- a receive
abbrev pub ReadsAlike : Type 0
ReadsAlike = (want : Want) (s : Held) → IsStanding s.layers → LooksAlike (read want) s

-- a detach
abbrev pub FinishesAlike : Type 0
FinishesAlike = (s : Held) → IsStanding s.layers → IsFormed s.layers → LooksAlike detach_finish s

-- a handshake
abbrev pub GreetsAlike : Type 0
GreetsAlike = (s : Held) → LooksAlike greet_look s
