-- Words for stacks that are worked by hand.
use Rattle.std.specs.Prelude.{ℕ, List, [], Bool, false, Result, Ok, Err}
use Rattle.rand_core.specs.Stream.{Stream}
use Rattle.dill_base.specs.declared.errno.Errno.{Errno}
use Rattle.dill_frames.specs.declared.prefix.PrefixForm.{PrefixForm}
use Rattle.dill_calls.specs.declared.answer.Answer.TheVariants.{Bytes, Number}
use Rattle.dill_stack.specs.declared.layer.Layer.{Layer}
use Rattle.dill_stack.specs.declared.want.Want.{Want}
use Rattle.dill_stack.specs.declared.want.ReadOut.{ReadOut}
use Rattle.dill_stack.specs.declared.want.ReadOut.TheVariants.{Given}
use Rattle.dill_stack.specs.declared.parting.Parting.{Parting}
use Rattle.dill_stack.specs.Held.{Held, opening, came, ended}
use Rattle.dill_stack.specs.Attaching.{attach}
use Rattle.dill_stack.specs.Sending.{frame, line, done}
use Rattle.dill_stack.specs.Receiving.{read}
use Rattle.dill_stack.specs.Parting.{detach_start, detach_finish}

-- a generator whose every number is 37 fa 21 3d
abbrev pub random : Stream
random = record { u32_after = λ calls. 939139389; u64_after = λ calls. 0; bytes_after = λ calls n. [] }

-- the stack after a call, or the same where it was refused
abbrev pub or_same : Held → Result Held Errno → Held
or_same s (Ok t) = t
or_same s (Err e) = s

-- the same of a call that draws numbers
abbrev pub or_same_drawn : Held → Result (Held × Stream) Errno → Held
or_same_drawn s (Ok t) = t.0
or_same_drawn s (Err e) = s

-- the stack after each call, where it isn't refused
abbrev pub attached : Layer → Held → Held
attached l s = or_same s (attach l s)

-- a message is queued
abbrev pub sends : List ℕ → Held → Held
sends m s = or_same_drawn s (frame m random s)

-- a line is queued
abbrev pub sends_line : Bool → List ℕ → Held → Held
sends_line first w s = or_same s (line first w s)

-- the end of the top layer is queued
abbrev pub ends : Held → Held
ends s = or_same_drawn s (done random s)

-- a detach begins
abbrev pub leaves : Parting → Held → Held
leaves p s = or_same_drawn s (detach_start p random s)

-- a receive has looked
abbrev pub reads : Want → Held → Held
reads want s = (read want random s).stack

-- what a receive answers
abbrev pub said : Want → Held → ReadOut
said want s = (read want random s).said

-- a detach has looked
abbrev pub left : Held → Held
left s = (detach_finish random s).stack

-- what a detach answers
abbrev pub left_said : Held → ReadOut
left_said s = (detach_finish random s).said

-- an answer of bytes
abbrev pub bytes : List ℕ → ReadOut
bytes m = Given (Bytes m)

-- the answer 0
abbrev pub zero_given : ReadOut
zero_given = Given (Number 0)

-- two bytes, the first counts most
abbrev pub big2 : PrefixForm
big2 = record { size = 2; little = false }

-- a stack on which this came
abbrev pub with_bytes : List ℕ → Held
with_bytes u = came u opening

-- and then the peer ended
abbrev pub with_end_behind : List ℕ → Held
with_end_behind u = ended (came u opening)
