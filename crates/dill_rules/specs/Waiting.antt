-- Who waits, for how long the next wait may last, and when nobody can go on.
use Rattle.std.specs.Prelude.{ℕ, length, List, map, filter_map, find, Bool, not, ◌&&◌, ◌||◌, Option, Some, None, option_map, if◌then◌else◌, is_none, nat_lt, min}
use Rattle.std.specs.List.{reduce, list_any}
use Rattle.dill_calls.specs.declared.word.Word.{Word}
use Rattle.dill_calls.specs.CallTable.{word_of}
use Rattle.dill_kernel.specs.declared.ready.Limit.{Limit}
use Rattle.dill_kernel.specs.declared.ready.Limit.TheVariants.{NoWait, Until, Forever}
use Rattle.dill_rules.specs.declared.coroutine.Coroutine.{Coroutine}
use Rattle.dill_rules.specs.World.{World, pending_call}
use Rattle.dill_rules.specs.Naming.{uses_link}
use Rattle.dill_rules.specs.Expiring.{timers}
use Rattle.dill_rules.specs.Trying.{tries, closes}
use Rattle.dill_rules.specs.State.{State, is_answered}

-- a coroutine that is pending, and the word of its call
pub record Waiter : Type 0 where
  pub who : ℕ
  pub word : Word

-- until the least deadline, or for ever where there is none
abbrev pub until : Option ℕ → Limit
until None = Forever
until (Some due) = Until due

module _ {V : Type 0} where
  abbrev pub waiter_of : Coroutine V → Option Waiter
  waiter_of c = option_map (λ call. record { who = c.number; word = word_of call }) (pending_call c.mode)

  -- the pending coroutines, rising
  abbrev pub waiters : World V → List Waiter
  waiters w = filter_map waiter_of w.coroutines

  -- the least pending coroutine above a number
  abbrev pub waiting : World V → ℕ → Option Waiter
  waiting w after = find (λ x. nat_lt after x.who) (waiters w)

  -- the least moment at which a pending call expires
  abbrev pub least_due : World V → Option ℕ
  least_due w = reduce min (map (λ x. x.due) (timers w))

  -- a call on a link is pending
  abbrev pub awaits_link : World V → Bool
  awaits_link w = list_any (λ x. uses_link x.word) (waiters w)

  -- somebody has an answer, or some try is due, wherever the round stands
  abbrev pub can_go_on : State V → Bool
  can_go_on s = is_answered s || nat_lt 0 (length (tries s.world))

  -- how long the next wait may last
  abbrev pub limit : State V → Limit
  limit s = if can_go_on s then NoWait else until (least_due s.world)

  -- a `close` is due
  abbrev pub has_close : World V → Bool
  has_close w = nat_lt 0 (length (closes w))

  -- Nobody has an answer, no `close` is due, no call on a link is pending, and none expires.
  abbrev pub is_stuck : State V → Bool
  is_stuck s = not (is_answered s || has_close s.world) && (not (awaits_link s.world) && is_none (least_due s.world))
