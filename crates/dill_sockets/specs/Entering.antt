-- What the entry of a call does to its stack.
use Rattle.std.specs.Prelude.{◌≡◌, ◌++◌, Result, Ok, Err, IsOk, IsErr, if◌then◌else◌}
use Rattle.rand_core.specs.Stream.{Stream}
use Rattle.dill_base.specs.declared.errno.Errno.{Errno}
use Rattle.dill_base.specs.declared.errno.NoMemory.{NoMemory}
use Rattle.dill_base.specs.Maps.{if_some}
use Rattle.dill_calls.specs.declared.call.Call.{Call}
use Rattle.dill_calls.specs.declared.word.Word.{Word}
use Rattle.dill_calls.specs.CallTable.{word_of}
use Rattle.dill_http.specs.Heads.{Said, line_of}
use Rattle.dill_http.specs.Lines.{crlf}
use Rattle.dill_stack.specs.declared.fault.StackFault.{StackFault}
use Rattle.dill_stack.specs.declared.fault.StackFault.TheVariants as faults
use Rattle.dill_stack.specs.declared.layer.Layer.{Layer}
use Rattle.dill_stack.specs.Interface.{Held, frame, line, done, attach, detach_start}
use Rattle.dill_stack.specs.Rooms.{Stocked}
use Rattle.dill_rules.specs.Directions.{message_of, line_said, is_first, is_end, layer_of, parting_of}
use Rattle.dill_rules.specs.Linking.{if_ok, with_random}

-- what a line queues with its CRLF
abbrev pub line_due : Said → Stream → Held → Result (Held × Stream) Errno
line_due said random s = with_random random (line (is_first said) (line_of said ++ crlf) s)

-- what a call queues that sends a line
abbrev pub said_due : Call → Stream → Held → Result (Held × Stream) Errno
said_due call random s = if_some (line_said call) (Ok (s, random)) (λ said. line_due said random s)

-- the end of the sending direction
abbrev pub end_due : Word → Stream → Held → Result (Held × Stream) Errno
end_due word random s = if is_end word then done random s else Ok (s, random)

-- what a call queues that sends no message
abbrev pub other_due : Call → Stream → Held → Result (Held × Stream) Errno
other_due call random s = if_some (line_said call) (end_due (word_of call) random s) (λ said. line_due said random s)

-- what a send or an end queues
abbrev pub queue_due : Call → Stream → Held → Result (Held × Stream) Errno
queue_due call random s = if_some (message_of call) (other_due call random s) (λ m. frame m random s)

-- the stack with the layer put on it
abbrev pub layer_due : Layer → Stream → Held → Result (Held × Stream) Errno
layer_due layer random s = with_random random (attach layer s)

-- what an attach puts on the stack
abbrev pub attach_due : Call → Stream → Held → Result (Held × Stream) Errno
attach_due call random s = if_some (layer_of call) (Ok (s, random)) (λ layer. layer_due layer random s)

-- what a detach queues
abbrev pub detach_due : Call → Stream → Held → Result (Held × Stream) Errno
detach_due call random s = if_some (parting_of call) (Ok (s, random)) (λ parting. detach_start parting random s)

-- What is due is done, and a refusal changes nothing.
pub record IsEntered (due : Result (Held × Stream) Errno) (before now : Stocked) (random left : Stream) : Type 0 where
  pub done : (now.held, left) ≡ if_ok due (before.held, random) (λ x. x)
  pub rest : now ≡ record before { held = now.held }

-- Want of memory changes nothing.
pub record IsUnchanged (before now : Stocked) (random left : Stream) : Type 0 where
  pub same : now ≡ before
  pub kept : left ≡ random

-- the entry of a call
abbrev pub Enters : Result (Held × Stream) Errno → Result (Unit {0}) NoMemory → (before now : Stocked) → (random left : Stream) → Type 0
Enters due (Ok done) before now random left = IsEntered due before now random left
Enters due (Err lack) before now random left = IsUnchanged before now random left

-- want of memory is no refusal
abbrev pub IsLack : StackFault → Result (Unit {0}) NoMemory → Type 0
IsLack (faults.Refused e) result = IsOk result
IsLack faults.NoMemory result = IsErr result
