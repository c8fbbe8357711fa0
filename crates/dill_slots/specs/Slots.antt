-- Slots as contracts see them: what is live in order of id, the ready queue, who waits on which queue, and the timers in their order.
use Rattle.std.specs.Prelude.{◌≡◌, ℕ, ◌<◌, ◌≤◌, ◌++◌, List, [], ◌∷◌, length, map, filter, find, drop, slice_get, unwrap_or, Bool, true, not, ◌&&◌, ◌||◌, ◌==◌, nat_lt, nat_le, if◌then◌else◌, Option, Some, None, option_map}
use Rattle.std.specs.List.{list_any, list_all}
use Rattle.dill_slots.specs.Pairs.{each_pair, has, differ}
use Rattle.dill_slots.specs.declared.slot.Slot.{Slot}
use Rattle.dill_slots.specs.declared.slot.Timer.{Timer}
use Rattle.dill_slots.specs.declared.slot.Waiting.{Waiting}
use Rattle.dill_slots.specs.declared.slot.SlotFault.{SlotFault}
use Rattle.dill_slots.specs.declared.slot.SlotFault.TheVariants.{Full, NoMemory}

-- the live slots in rising id, the slots in the ready queue in order of putting, the timers by deadline and id, and what waits on queues in order of putting
pub record Slots (T : Type 0) : Type 0 where
  pub live : List (Slot T)
  pub ready : List ℕ
  pub timers : List Timer
  pub waits : List Waiting

-- how many slots are live at most
abbrev pub most_slots : ℕ
most_slots = 65536

-- how many clauses of a slot wait at most
abbrev pub most_clauses : ℕ
most_clauses = 16

-- it waits on this queue
abbrev pub waits_on : ℕ → Waiting → Bool
waits_on queue x = x.queue == queue

-- it is of this slot
abbrev pub is_wait_of : ℕ → Waiting → Bool
is_wait_of slot x = x.slot == slot

-- it is of another slot than this
abbrev pub is_others_wait : ℕ → Waiting → Bool
is_others_wait slot x = not (x.slot == slot)

-- it is this clause of this slot
abbrev pub is_wait_under : ℕ → ℕ → Waiting → Bool
is_wait_under slot clause x = (x.slot == slot) && (x.clause == clause)

-- two that wait are two clauses, or of two slots
abbrev pub are_two_waits : Waiting → Waiting → Bool
are_two_waits x y = not ((x.slot == y.slot) && (x.clause == y.clause))

-- its slot and its clause
abbrev pub place_of_wait : Waiting → ℕ × ℕ
place_of_wait x = (x.slot, x.clause)

-- the first that waits on a queue
abbrev pub first_of : ℕ → List Waiting → Option (ℕ × ℕ)
first_of queue waits = option_map place_of_wait (slice_get (filter (waits_on queue) waits) 0)

-- earlier deadlines first, and of equal ones that of the lower id
abbrev pub is_earlier : Timer → Timer → Bool
is_earlier x y = nat_lt x.deadline y.deadline || (x.deadline == y.deadline && nat_lt x.id y.id)

-- a timer at its place in the order
abbrev pub placed : Timer → List Timer → List Timer
placed x [] = x ∷ []
placed x (y ∷ ys) = if is_earlier x y then x ∷ y ∷ ys else y ∷ placed x ys

-- it is the timer of this slot
abbrev pub is_timer_of : ℕ → Timer → Bool
is_timer_of slot x = x.slot == slot

-- it is the timer of another slot than this
abbrev pub is_others_timer : ℕ → Timer → Bool
is_others_timer slot x = not (x.slot == slot)

-- a timer is not behind another
abbrev pub is_in_order : Timer → Timer → Bool
is_in_order x y = not (is_earlier y x)

-- two timers of two slots
abbrev pub are_two_timers : Timer → Timer → Bool
are_two_timers x y = differ x.slot y.slot

-- the first timer, if it is passed
abbrev pub first_passed : ℕ → List Timer → Option Timer
first_passed moment [] = None
first_passed moment (x ∷ xs) = if nat_le x.deadline moment then Some x else None

-- without the first timer, if it is passed
abbrev pub not_passed : ℕ → List Timer → List Timer
not_passed moment [] = []
not_passed moment (x ∷ xs) = if nat_le x.deadline moment then xs else x ∷ xs

module _ {T : Type 0} where
  -- nothing is live
  abbrev pub no_slots : Slots T
  no_slots = record { live = []; ready = []; timers = []; waits = [] }

  -- it is the slot of this number
  abbrev pub is_slot : ℕ → Slot T → Bool
  is_slot slot x = x.slot == slot

  -- it is another slot than that of this number
  abbrev pub is_other : ℕ → Slot T → Bool
  is_other slot x = not (x.slot == slot)

  -- a slot is live
  abbrev pub is_live : Slots T → ℕ → Bool
  is_live s slot = list_any (is_slot slot) s.live

  -- a slot is in the ready queue
  abbrev pub is_ready : Slots T → ℕ → Bool
  is_ready s slot = has s.ready slot

  -- a slot has a timer
  abbrev pub has_timer : Slots T → ℕ → Bool
  has_timer s slot = list_any (is_timer_of slot) s.timers

  -- a slot waits on some queue
  abbrev pub is_waiting : Slots T → ℕ → Bool
  is_waiting s slot = list_any (is_wait_of slot) s.waits

  -- a clause of a slot waits on some queue
  abbrev pub waits_under : Slots T → ℕ → ℕ → Bool
  waits_under s slot clause = list_any (is_wait_under slot clause) s.waits

  -- the wait list of a queue, in order of putting
  abbrev pub wait_list : Slots T → ℕ → List Waiting
  wait_list s queue = filter (waits_on queue) s.waits

  -- the slot and the clause that stand first in the wait list of a queue
  abbrev pub first_waiting : Slots T → ℕ → Option (ℕ × ℕ)
  first_waiting s queue = option_map place_of_wait (slice_get (wait_list s queue) 0)

  -- an id is greater than every live one
  abbrev pub is_new_id : Slots T → ℕ → Bool
  is_new_id s id = list_all (λ x. nat_lt x.id id) s.live

  -- what is live under a number
  abbrev pub held_at : Slots T → ℕ → Option (Slot T)
  held_at s slot = find (is_slot slot) s.live

  -- the value of a live slot
  abbrev pub value_at : Slots T → ℕ → Option T
  value_at s slot = option_map (λ x. x.value) (held_at s slot)

  -- the id of a live slot
  abbrev pub id_at : Slots T → ℕ → ℕ
  id_at s slot = unwrap_or (option_map (λ x. x.id) (held_at s slot)) 0

  -- a slot is live with a new id and a value
  abbrev pub insert : Slots T → ℕ → ℕ → T → Slots T
  insert s slot id value = record s { live = s.live ++ record { slot = slot; id = id; value = value } ∷ [] }

  -- a slot is live no more
  abbrev pub remove : Slots T → ℕ → Slots T
  remove s slot = record s { live = filter (is_other slot) s.live }

  -- another value, if it is the slot of this number
  abbrev pub with_value : ℕ → T → Slot T → Slot T
  with_value slot value x = if x.slot == slot then record x { value = value } else x

  -- a live slot has another value
  abbrev pub set_value : Slots T → ℕ → T → Slots T
  set_value s slot value = record s { live = map (with_value slot value) s.live }

  -- a slot at the end of the ready queue
  abbrev pub push_ready : Slots T → ℕ → Slots T
  push_ready s slot = record s { ready = s.ready ++ slot ∷ [] }

  -- without the first slot of the ready queue
  abbrev pub pop_ready : Slots T → Slots T
  pop_ready s = record s { ready = drop 1 s.ready }

  -- the timer of a live slot
  abbrev pub timer_at : Slots T → ℕ → ℕ → Timer
  timer_at s slot deadline = record { deadline = deadline; id = id_at s slot; slot = slot }

  -- a live slot has a timer
  abbrev pub set_timer : Slots T → ℕ → ℕ → Slots T
  set_timer s slot deadline = record s { timers = placed (timer_at s slot deadline) s.timers }

  -- a slot has no timer
  abbrev pub clear_timer : Slots T → ℕ → Slots T
  clear_timer s slot = record s { timers = filter (is_others_timer slot) s.timers }

  -- the first timer is gone, if it is passed
  abbrev pub expire : Slots T → ℕ → Slots T
  expire s moment = record s { timers = not_passed moment s.timers }

  -- a clause of a slot at the end of the wait list of a queue
  abbrev pub wait_on : Slots T → ℕ → ℕ → ℕ → Slots T
  wait_on s slot clause queue = record s { waits = s.waits ++ record { slot = slot; clause = clause; queue = queue } ∷ [] }

  -- a slot is on no wait list
  abbrev pub leave : Slots T → ℕ → Slots T
  leave s slot = record s { waits = filter (is_others_wait slot) s.waits }

  -- two slots with rising ids
  abbrev pub has_lower_id : Slot T → Slot T → Bool
  has_lower_id x y = nat_lt x.id y.id

  -- two slots of two numbers
  abbrev pub are_two : Slot T → Slot T → Bool
  are_two x y = differ x.slot y.slot

  -- a timer is that of a live slot
  abbrev pub is_timed : List (Slot T) → Timer → Bool
  is_timed live x = list_any (λ y. (y.slot == x.slot) && (y.id == x.id)) live

  -- a clause that waits is one of a live slot
  abbrev pub may_wait : List (Slot T) → Waiting → Bool
  may_wait live x = list_any (is_slot x.slot) live && nat_lt x.clause most_clauses

  -- what holds of slots: ids rise, a number is live once, ready once and has one timer, a clause waits once, what is ready, has a timer or waits is live, and the timers are in order
  pub record IsConsistent (s : Slots T) : Type 0 where
    pub rising : each_pair has_lower_id s.live ≡ true
    pub once_live : each_pair are_two s.live ≡ true
    pub few : length s.live ≤ most_slots
    pub once_ready : each_pair differ s.ready ≡ true
    pub ready_live : list_all (is_live s) s.ready ≡ true
    pub in_order : each_pair is_in_order s.timers ≡ true
    pub once_timed : each_pair are_two_timers s.timers ≡ true
    pub timed_live : list_all (is_timed s.live) s.timers ≡ true
    pub once_waiting : each_pair are_two_waits s.waits ≡ true
    pub waiting_live : list_all (may_wait s.live) s.waits ≡ true

  -- the value comes back, and there are 65,536 slots or there is want of memory
  abbrev pub Refuses : Slots T → T → SlotFault T → Type 0
  Refuses s value (Full back) = (back ≡ value) × (length s.live ≡ most_slots)
  Refuses s value (NoMemory back) = (back ≡ value) × (length s.live < most_slots)
