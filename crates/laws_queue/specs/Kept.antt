-- What a core keeps of a state: the world, and the order of the answers in place of their stamps. Each step of a state, as a step of what is kept.
use Rattle.std.specs.Prelude.{ℕ, ◌-◌, List, [], ◌∷◌, ◌++◌, length, map, fold, Bool, true, false, not, ◌&&◌, ◌||◌, Option, if◌then◌else◌, is_none, nat_lt, max}
use Rattle.dill_calls.specs.declared.ran.LackPlace.{LackPlace}
use Rattle.dill_calls.specs.declared.ran.Ran.{Ran}
use Rattle.dill_calls.specs.declared.word.Word.{Word}
use Rattle.dill_calls.specs.Program.{Program}
use Rattle.std.specs.Option.{option_map}
use Rattle.rand_core.specs.Stream.{Stream}
use Rattle.dill_kernel.specs.declared.replies.KernelAsk.{KernelAsk}
use Rattle.dill_kernel.specs.declared.replies.KernelReply.{KernelReply}
use Rattle.dill_kernel.specs.declared.ready.Limit.{Limit}
use Rattle.dill_kernel.specs.declared.ready.Limit.TheVariants.{NoWait}
use Rattle.dill_kernel.specs.declared.ready.Ready.{Ready}
use Rattle.dill_scope.specs.Scopes as scopes
use Rattle.dill_base.specs.Maps.{if_some}
use Rattle.dill_rules.specs.World.{World, opening, begin, from_start, coroutine_of}
use Rattle.dill_rules.specs.Expiring.{passed, expire_one}
use Rattle.dill_rules.specs.Hearing.{heard, woken}
use Rattle.dill_rules.specs.Seen.{nobody}
use Rattle.dill_rules.specs.Settling.{settle}
use Rattle.dill_rules.specs.State.{lined, fresh}
use Rattle.dill_rules.specs.Trying.{tries, next_try}
use Rattle.dill_rules.specs.Turning.{turn, shown, may_lack_move, move_of}
use Rattle.dill_rules.specs.Waiting.{until, least_due, has_close, awaits_link, waiters}
use Rattle.laws_queue.specs.Lending.{no_random, lent, wordless}

-- Who has an answer, in the order in which they had it, and how many of these had it before the root began to close.
pub record Kept (V : Type 0) : Type 0 where
  pub world : World V
  pub ready : List ℕ
  pub early : ℕ

-- somebody has an answer
abbrev pub has_answer : List ℕ → Bool
has_answer [] = false
has_answer (who ∷ rest) = true

module _ {V : Type 0} where
  -- `main` has the first answer
  abbrev pub opening_kept : V → Kept V
  opening_kept view = record { world = opening view no_random; ready = 1 ∷ []; early = 0 }

  -- who was answered in the step is queued, the lower coroutine first
  abbrev pub queued : World V → List ℕ → ℕ → Kept V
  queued w ready early = record { world = record w { coroutines = map lined w.coroutines }; ready = ready ++ fresh w; early = early }

  -- the turn of the first in the queue
  abbrev pub turn_first : Program V → Option LackPlace → Kept V → List ℕ → Kept V
  turn_first p lack k [] = k
  turn_first p lack k (who ∷ rest) = queued (turn p lack k.world who) rest (k.early - 1)

  abbrev pub kept_turn : Program V → Option LackPlace → Kept V → Kept V
  kept_turn p lack k = turn_first p lack k k.ready

  -- what it shows
  abbrev pub shown_first : Program V → Option LackPlace → World V → List ℕ → Ran
  shown_first p lack w [] = nobody
  shown_first p lack w (who ∷ rest) = if_some (coroutine_of w who) nobody (λ c. shown p lack w who c.body)

  abbrev pub kept_ran : Program V → Option LackPlace → Kept V → Ran
  kept_ran p lack k = shown_first p lack k.world k.ready

  -- it may be refused memory there
  abbrev pub may_lack_first : Program V → World V → List ℕ → LackPlace → Bool
  may_lack_first p w [] place = false
  may_lack_first p w (who ∷ rest) place = if_some (coroutine_of w who) false (λ c. may_lack_move p w who (move_of p w who c.body) place)

  abbrev pub kept_may_lack : Program V → Kept V → LackPlace → Bool
  kept_may_lack p k place = may_lack_first p k.world k.ready place

  -- one passed deadline, and who had it is queued
  abbrev pub kept_expire_next : Kept V → ℕ → Kept V
  kept_expire_next k who = queued (expire_one k.world who) k.ready k.early

  -- the passed deadlines in order
  abbrev pub kept_late : Kept V → Kept V
  kept_late k = fold kept_expire_next (record k { world = begin k.world }) (passed k.world)

  -- the passed deadlines in order, and behind them what settles
  abbrev pub kept_expired : Kept V → Kept V
  kept_expired k = queued (settle (kept_late k).world) (kept_late k).ready (kept_late k).early

  -- the world at whose settling the root closes
  abbrev pub root_closed : World V → World V
  root_closed w = record (from_start (begin w)) { scopes = scopes.close w.scopes 0 }

  -- the root is closed: everybody is cancelled
  abbrev pub kept_shut : Kept V → Kept V
  kept_shut k = queued (settle (root_closed k.world)) k.ready (length k.ready)

  -- what is asked next of the kernel
  abbrev pub kept_ask : Kept V → Option KernelAsk
  kept_ask k = option_map (λ x. x.ask) (next_try k.world)

  -- the reply to it is heard, and then the world settles
  abbrev pub kept_hear : Kept V → Option KernelReply → Kept V
  kept_hear k said = if_some (next_try k.world) k (λ x. queued (settle (heard (begin k.world) x said)) k.ready k.early)

  -- after a wait: the moment is the greatest that was told
  abbrev pub kept_woke : Kept V → ℕ → List Ready → Kept V
  kept_woke k told ready = record k { world = record (woken (begin k.world) ready) { moment = max k.world.moment told } }

  -- how long the next wait may last
  abbrev pub kept_limit : Kept V → Limit
  kept_limit k = if has_answer k.ready || nat_lt 0 (length (tries k.world)) then NoWait else until (least_due k.world)

  -- who waits in which call, the lower coroutine first
  abbrev pub kept_waiting : Kept V → List (ℕ × Word)
  kept_waiting k = map (λ x. (x.who, x.word)) (waiters k.world)

  -- nobody can go on
  abbrev pub kept_stuck : Kept V → Bool
  kept_stuck k = not (has_answer k.ready || has_close k.world) && (not (awaits_link k.world) && is_none (least_due k.world))

  -- random numbers are lent for a step
  abbrev pub lend_kept : Kept V → Stream → Kept V
  lend_kept k random = record k { world = lent random k.world }

  -- and those that are left are given back
  abbrev pub returned : Kept V → Kept V
  returned k = record k { world = wordless k.world }
