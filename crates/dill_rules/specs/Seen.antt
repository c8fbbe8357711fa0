-- The steps and what is seen of a state, in the form that the story of a run asks for: random numbers are lent for a step, and those that are left come back.
use Rattle.std.specs.Prelude.{ℕ, List, map, Option, Some, None, option_map}
use Rattle.rand_core.specs.Stream.{Stream}
use Rattle.dill_calls.specs.declared.answer.Answer.TheVariants.{Number}
use Rattle.dill_calls.specs.declared.ran.LackPlace.{LackPlace}
use Rattle.dill_calls.specs.declared.ran.Note.{Note}
use Rattle.dill_calls.specs.declared.ran.Ran.{Ran}
use Rattle.dill_calls.specs.declared.word.Word.{Word}
use Rattle.dill_calls.specs.declared.word.Word.TheVariants.{Start}
use Rattle.dill_calls.specs.Program.{Program}
use Rattle.dill_handles.specs.Handles as handles
use Rattle.dill_kernel.specs.declared.replies.KernelAsk.{KernelAsk}
use Rattle.dill_kernel.specs.declared.replies.KernelReply.{KernelReply}
use Rattle.dill_base.specs.Maps.{if_some}
use Rattle.dill_rules.specs.Trying.{next_try}
use Rattle.dill_rules.specs.State.{State, turned, ran, hear}
use Rattle.dill_rules.specs.Waiting.{waiters}

-- what is shown where nobody has an answer
abbrev pub nobody : Ran
nobody = record { who = 0; word = Start; given = Number 0; lack = None; «end» = None; text = None }

module _ {V : Type 0} where
  -- a state whose next random numbers are these
  abbrev pub lend : State V → Stream → State V
  lend s random = record s { world = record s.world { random = random } }

  -- a state after a step, and the random numbers that are left
  abbrev pub with_left : State V → State V × Stream
  with_left s = (s, s.world.random)

  -- the next turn
  abbrev pub turn_seen : Program V → State V → Option LackPlace → Stream → State V × Stream
  turn_seen p s lack random = with_left (turned p lack (lend s random))

  -- what it shows
  abbrev pub ran_seen : Program V → State V → Option LackPlace → Ran
  ran_seen p s lack = if_some (ran p lack s) nobody (λ r. r)

  -- what is asked next
  abbrev pub ask_seen : State V → Option KernelAsk
  ask_seen s = option_map (λ x. x.ask) (next_try s.world)

  -- the reply to it
  abbrev pub hear_seen : State V → KernelAsk → KernelReply → Stream → State V × Stream
  hear_seen s ask said random = with_left (hear (lend s random) (Some said))

  -- the notes of the last step
  abbrev pub notes_seen : State V → List Note
  notes_seen s = s.world.notes

  -- who waits in which call
  abbrev pub waiting_seen : State V → List (ℕ × Word)
  waiting_seen s = map (λ x. (x.who, x.word)) (waiters s.world)

  -- how many numbers were given, and how many of them are dead
  abbrev pub made_seen : State V → ℕ
  made_seen s = s.world.handles.last

  abbrev pub gone_seen : State V → ℕ
  gone_seen s = handles.gone s.world.handles
