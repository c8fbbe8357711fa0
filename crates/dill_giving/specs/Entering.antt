-- What the entry of a call does to a link, and to a world whose random numbers are lent to it.
use Rattle.std.specs.Prelude.{◌≡◌, Result, Ok, Err}
use Rattle.rand_core.specs.Stream.{Stream}
use Rattle.dill_base.specs.declared.errno.Errno.{Errno}
use Rattle.dill_base.specs.declared.errno.NoMemory.{NoMemory}
use Rattle.dill_base.specs.Maps.{if_some}
use Rattle.dill_calls.specs.declared.call.Call.{Call}
use Rattle.dill_stack.specs.Interface.{Held, detach_start}
use Rattle.dill_rules.specs.Directions.{parting_of}
use Rattle.dill_rules.specs.Links.{Link}
use Rattle.dill_rules.specs.Linking.{if_ok, ask_stack, greet_by}
use Rattle.dill_rules.specs.World.{World}

-- What is due of the stack is done, and a refusal changes nothing.
pub record IsPut (due : Result (Held × Stream) Errno) (before now : Link) (random left : Stream) : Type 0 where
  pub done : (now.stack, left) ≡ if_ok due (before.stack, random) (λ x. x)
  pub rest : now ≡ record before { stack = now.stack }

-- Nothing changes, and no random number is drawn.
pub record IsLeft {X : Type 0} (before now : X) (random left : Stream) : Type 0 where
  pub same : now ≡ before
  pub kept : left ≡ random

-- the entry of a call on a link
abbrev pub Puts : Result (Held × Stream) Errno → Result (Unit {0}) NoMemory → (before now : Link) → (random left : Stream) → Type 0
Puts due (Ok done) before now random left = IsPut due before now random left
Puts due (Err lack) before now random left = IsLeft before now random left

module _ {V : Type 0} where
  -- a world with the random numbers that are lent to it
  abbrev pub lent : Stream → World V → World V
  lent random w = record w { random = random }

  -- what is done to a world that draws from the numbers that it is lent
  abbrev pub Asks : (World V → World V) → Result (Unit {0}) NoMemory → (before now : World V) → (random left : Stream) → Type 0
  Asks act (Ok done) before now random left = lent left now ≡ act (lent random before)
  Asks act (Err lack) before now random left = IsLeft before now random left

  -- a handshake begins
  abbrev pub start_handshake : World V → Call → World V
  start_handshake w call = ask_stack w call (greet_by call)

  -- a detach begins
  abbrev pub start_leaving : World V → Call → World V
  start_leaving w call = if_some (parting_of call) w (λ parting. ask_stack w call (λ random s. detach_start parting random s))
