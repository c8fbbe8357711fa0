-- The look of a receive that is pending, at its stack, and the room that it has for its answer.
use Rattle.std.specs.Prelude.{Option, Some, None, IfSome, IsSomeAnd}
use Rattle.rand_core.specs.Stream.{Stream}
use Rattle.dill_base.specs.Maps.{if_some}
use Rattle.dill_calls.specs.declared.answer.Answer.{Answer}
use Rattle.dill_calls.specs.CallTable.{word_of}
use Rattle.dill_stack.specs.declared.want.Want.{Want}
use Rattle.dill_stack.specs.Answering.{Sizes, HasRoom}
use Rattle.dill_stack.specs.Interface.{Held, Looked, read}
use Rattle.dill_rules.specs.declared.coroutine.Mode.{Mode}
use Rattle.dill_rules.specs.declared.coroutine.Mode.TheVariants as modes
use Rattle.dill_rules.specs.Directions.{asked}
use Rattle.dill_rules.specs.LinkAnswers.{still}
use Rattle.dill_rules.specs.World.{pending_call}

-- what a receive that is pending asks for
abbrev pub wanted : Mode → Option Want
wanted mode = if_some (pending_call mode) None asked

-- room for an answer twice
pub record Twice : Type 0 where
  pub first : Sizes
  pub second : Sizes

-- There is room twice for the answer of this receive.
abbrev pub HasTwice : Want → Twice → Type 0
HasTwice want r = HasRoom want r.first × HasRoom want r.second

-- A receive that is pending has room for its answer twice.
abbrev pub HasRooms : Mode → Option Twice → Type 0
HasRooms mode rooms = IfSome (wanted mode) (λ want. IsSomeAnd rooms (HasTwice want))

-- the look of who stands there at a stack: a receive that is pending reads
abbrev pub seen_by : Mode → Stream → Held → Looked
seen_by mode random s = if_some (wanted mode) (still random s) (λ want. read want random s)

-- where who stands there stands once it is answered, if it is
abbrev pub answered_by : Option Answer → Mode → Mode
answered_by None mode = mode
answered_by (Some answer) mode = if_some (pending_call mode) mode (λ call. modes.Fresh (word_of call) answer)

-- an answer twice
abbrev pub twice : Option Answer → Option (Answer × Answer)
twice None = None
twice (Some answer) = Some (answer, answer)
