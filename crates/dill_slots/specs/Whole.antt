-- What the parts of slots keep: which numbers are free, and room for each live slot in each queue.
use Rattle.std.specs.Prelude.{◌≡◌, ℕ, ◌+◌, ◌*◌, ◌<◌, ◌≤◌, List, length, slice_get, unwrap_or, true, not, nat_lt}
use Rattle.std.specs.List.{list_all, list_any}
use Rattle.dill_slots.specs.Pairs.{each_pair, differ, Roomy}
use Rattle.dill_slots.specs.Slots.{Slots, IsConsistent, is_slot, most_slots, most_clauses}
use Rattle.dill_slots.specs.declared.slot.Slot.{Slot}
use Rattle.dill_slots.specs.declared.slot.Timer.{Timer}
use Rattle.dill_slots.specs.declared.slot.Waiting.{Waiting}

-- the same elements, and no less room
pub record Grows {X : Type 0} (old new : Roomy X) : Type 0 where
  pub same : new.items ≡ old.items
  pub more : old.room ≤ new.room

-- the number of a new slot: the first that is free, or else the next
abbrev pub next_number : List ℕ → ℕ → ℕ
next_number free count = unwrap_or (slice_get free 0) count

-- room for one more live slot
pub record FitsOneMore (count : ℕ) (free ready : Roomy ℕ) (timers : Roomy Timer) (waits : Roomy Waiting) : Type 0 where
  pub free_room : count + length free.items < free.room
  pub ready_room : count < ready.room
  pub timer_room : count < timers.room
  pub wait_room : (count + 1) * most_clauses ≤ waits.room

module _ {T : Type 0} where
  -- the value that the parts stand for
  abbrev pub slots_of : List (Slot T) → Roomy ℕ → Roomy Timer → Roomy Waiting → Slots T
  slots_of live ready timers waits = record { live = live; ready = ready.items; timers = timers.items; waits = waits.items }

  -- the numbers below how many are live or free are live or free, each once
  pub record AreSpare (live : List (Slot T)) (free : List ℕ) : Type 0 where
    pub once : each_pair differ free ≡ true
    pub dead : list_all (λ n. not (list_any (is_slot n) live)) free ≡ true
    pub free_below : list_all (λ n. nat_lt n (length live + length free)) free ≡ true
    pub live_below : list_all (λ x. nat_lt x.slot (length live + length free)) live ≡ true
    pub few : length live + length free ≤ most_slots

  -- the parts are consistent, and there is room for what may be put
  pub record IsWhole (live : List (Slot T)) (free ready : Roomy ℕ) (timers : Roomy Timer) (waits : Roomy Waiting) : Type 0 where
    pub consistent : IsConsistent (slots_of live ready timers waits)
    pub spare : AreSpare live free.items
    pub free_room : length live + length free.items ≤ free.room
    pub ready_room : length live ≤ ready.room
    pub timer_room : length live ≤ timers.room
    pub wait_room : length live * most_clauses ≤ waits.room
