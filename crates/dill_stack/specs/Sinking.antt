-- One step of a detach that drops what is there: a frame is passed, or an item is dropped, or it ends.
use Rattle.std.specs.Prelude.{◌≡◌, ◌<◌, ℕ, length}
use Rattle.rand_core.specs.Stream.{Stream}
use Rattle.dill_calls.specs.declared.answer.Answer.TheVariants.{Number}
use Rattle.dill_stack.specs.declared.dropping.DropStep.{DropStep}
use Rattle.dill_stack.specs.declared.dropping.DropStep.TheVariants as step
use Rattle.dill_stack.specs.declared.want.ReadOut.{ReadOut}
use Rattle.dill_stack.specs.declared.want.ReadOut.TheVariants.{Given}
use Rattle.dill_stack.specs.Held.{Held}
use Rattle.dill_stack.specs.Dropping.{dropped_within}
use Rattle.dill_stack.specs.Receiving.{Looked, looked_over}
use Rattle.dill_stack.specs.Rooms.{Stocked}

-- a look of a detach that drops at most so many items
abbrev pub look_within : ℕ → Stream → Held → Looked
look_within n random s = looked_over (dropped_within n s.receiving.done s.layers s.unread) random s

-- It goes on, and leads to the same look.
pub record GoesOn (before now : Stocked) (random left : Stream) : Type 0 where
  pub same : (n : ℕ) → length before.held.unread < n → (m : ℕ) × (length now.held.unread < m) × (look_within n random before.held ≡ look_within m left now.held)
  pub less : length now.held.unread < length before.held.unread
  pub rest : now ≡ record before { held = now.held }

-- It stops with this answer.
pub record StopsWith (said : ReadOut) (before now : Stocked) (random left : Stream) : Type 0 where
  pub same : (n : ℕ) → length before.held.unread < n → look_within n random before.held ≡ record { stack = now.held; said = said; random = left }
  pub rest : now ≡ record before { held = now.held }

-- what was done, as it is told
abbrev pub Sinks : DropStep → (before now : Stocked) → (random left : Stream) → Type 0
Sinks step.Item before now random left = GoesOn before now random left
Sinks step.End before now random left = StopsWith (Given (Number 0)) before now random left
Sinks (step.Stops said) before now random left = StopsWith said before now random left
