-- Over any steps of a state each number that was given is live, of a closing, or was noted as dead, exactly one of these and once. So none is given again.
use Rattle.std.specs.Prelude.{◌≡◌, ℕ, ◌+◌, List, [], ◌∷◌, ◌++◌, map, Bool, true, ◌&&◌, Option, if◌then◌else◌, is_some, nat_lt, nat_le}
use Rattle.rand_core.specs.Stream.{Stream}
use Rattle.dill_calls.specs.declared.ran.LackPlace.{LackPlace}
use Rattle.dill_calls.specs.declared.ran.Note.{Note}
use Rattle.dill_calls.specs.Program.{Program, Begins, IsLawful}
use Rattle.dill_kernel.specs.declared.ready.Ready.{Ready}
use Rattle.dill_kernel.specs.declared.replies.KernelReply.{KernelReply}
use Rattle.dill_rules.specs.Seen.{lend}
use Rattle.dill_rules.specs.State.{State, opening_state, is_answered, turned, hear, expired, shut, woke}
use Rattle.dill_rules.specs.Trying.{next_try}
use Rattle.laws_queue.specs.Well.{bit, occurs}
use Rattle.laws_sound.specs.Order.{times_used}
use Rattle.laws_sound.specs.Orderly.{dead_by}

-- a step of a state: a turn, a reply of the kernel, the deadlines that have passed, the closing of the root, and a wait that is over
pub data Event : Type 0 where
  Turn : Option LackPlace → Event
  Hear : Option KernelReply → Event
  Expire : Event
  Shut : Event
  Wake : ℕ → List Ready → Event

module _ {V : Type 0} where
  abbrev pub event : Program V → State V → Event → State V
  event p s (Turn lack) = turned p lack s
  event p s (Hear said) = hear s said
  event p s Expire = expired s
  event p s Shut = shut s
  event p s (Wake told ready) = woke s told ready

  -- a turn is due where somebody has an answer, and a reply where something is asked; else nothing is done
  abbrev pub is_due : State V → Event → Bool
  is_due s (Turn lack) = is_answered s
  is_due s (Hear said) = is_some (next_try s.world)
  is_due s _ = true

  -- the notes of a step
  abbrev pub notes_of : Program V → State V → Event → List Note
  notes_of p s x = if is_due s x then (event p s x).world.notes else []

  -- the state after steps, with the random numbers that are lent for each
  abbrev pub reached : Program V → State V → List (Stream × Event) → State V
  reached p s [] = s
  reached p s ((random, x) ∷ xs) = reached p (event p (lend s random) x) xs

  -- the notes of all of them
  abbrev pub noted : Program V → State V → List (Stream × Event) → List Note
  noted p s [] = []
  noted p s ((random, x) ∷ xs) = notes_of p (lend s random) x ++ noted p (event p (lend s random) x) xs

  abbrev pub NumbersOnce : Program V → Type 0
  NumbersOnce p = (view : V) (random : Stream) (xs : List (Stream × Event)) (n : ℕ) → Begins p view
      → occurs n (map dead_by (noted p (opening_state view random) xs)) + times_used (reached p (opening_state view random) xs).world n
      ≡ bit (nat_lt 0 n && nat_le n (reached p (opening_state view random) xs).world.handles.last)

-- so it is of programs that keep their law, whatever they call and whatever the kernel replies
abbrev pub GivesNumbersOnce : {V : Type 0} → Program V → Type 0
GivesNumbersOnce p = IsLawful p → NumbersOnce p
