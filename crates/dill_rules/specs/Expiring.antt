-- Expiry: the pending calls whose deadline is passed, in the order of deadline and coroutine.
use Rattle.std.specs.Prelude.{ℕ, ◌==◌, List, [], ◌∷◌, filter_map, map, Bool, ◌&&◌, ◌||◌, Option, Some, None, if◌then◌else◌, nat_lt, nat_le}
use Rattle.dill_base.specs.declared.deadline.Deadline.{Deadline}
use Rattle.dill_base.specs.declared.deadline.Deadline.TheVariants.{At}
use Rattle.dill_calls.specs.declared.call.Call.{Call}
use Rattle.dill_calls.specs.CallTable.{deadline_of}
use Rattle.dill_base.specs.Maps.{if_some}
use Rattle.dill_rules.specs.declared.coroutine.Coroutine.{Coroutine}
use Rattle.dill_rules.specs.World.{World, call_of, pending_call}
use Rattle.dill_rules.specs.Entering.{late_answer}
use Rattle.dill_rules.specs.Giving.{give}

-- the moment of a deadline that is one
abbrev pub moment_of : Deadline → Option ℕ
moment_of (At due) = Some due
moment_of deadline = None

-- when a pending call expires, if it does
abbrev pub due_of : Call → Option ℕ
due_of call = if_some (deadline_of call) None moment_of

-- a coroutine and when its pending call expires
pub record Timer : Type 0 where
  pub due : ℕ
  pub who : ℕ

-- earlier deadlines first, and of equal ones that of the lower coroutine
abbrev pub is_earlier : Timer → Timer → Bool
is_earlier x y = nat_lt x.due y.due || (x.due == y.due && nat_lt x.who y.who)

abbrev pub placed : Timer → List Timer → List Timer
placed x [] = x ∷ []
placed x (y ∷ ys) = if is_earlier x y then x ∷ y ∷ ys else y ∷ placed x ys

abbrev pub in_order : List Timer → List Timer
in_order [] = []
in_order (x ∷ xs) = placed x (in_order xs)

module _ {V : Type 0} where
  abbrev pub timer_of : Coroutine V → Option Timer
  timer_of c = if_some (pending_call c.mode) None (λ call. if_some (due_of call) None (λ due. Some (record { due = due; who = c.number })))

  -- the pending calls that expire at some moment
  abbrev pub timers : World V → List Timer
  timers w = filter_map timer_of w.coroutines

  -- those whose deadline is passed, in order
  abbrev pub passed : World V → List ℕ
  passed w = map (λ x. x.who) (in_order (filter_map (λ c. if_some (timer_of c) None (λ x. if nat_le x.due w.moment then Some x else None)) w.coroutines))

  -- the pending call of a coroutine is given up
  abbrev pub expire_one : World V → ℕ → World V
  expire_one w who = if_some (call_of w who) w (λ call. give w who call (late_answer call))
