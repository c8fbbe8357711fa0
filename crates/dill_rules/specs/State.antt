-- The state: the world with the stamps of the answers and of the closings, and the steps from state to state.
use Rattle.std.specs.Prelude.{ℕ, ◌+◌, ◌==◌, List, [], ◌∷◌, ◌++◌, length, map, filter, fold, find, Bool, true, false, not, ◌&&◌, Option, Some, None, option_map, if◌then◌else◌, is_some, nat_lt, max}
use Rattle.std.specs.List.{list_any}
use Rattle.dill_calls.specs.declared.ran.LackPlace.{LackPlace}
use Rattle.dill_calls.specs.declared.ran.Ran.{Ran}
use Rattle.dill_calls.specs.Program.{Program}
use Rattle.dill_scope.specs.Scopes as scopes
use Rattle.dill_kernel.specs.declared.ready.Ready.{Ready}
use Rattle.dill_kernel.specs.declared.replies.KernelReply.{KernelReply}
use Rattle.rand_core.specs.Stream.{Stream}
use Rattle.dill_base.specs.Maps.{if_some}
use Rattle.dill_rules.specs.declared.coroutine.Coroutine.{Coroutine}
use Rattle.dill_rules.specs.declared.coroutine.Mode.{Mode}
use Rattle.dill_rules.specs.declared.coroutine.Mode.TheVariants as modes
use Rattle.dill_rules.specs.World.{World, opening, begin, from_start, coroutine_of}
use Rattle.dill_rules.specs.Trying.{next_try}
use Rattle.dill_rules.specs.Hearing.{heard, woken}
use Rattle.dill_rules.specs.Settling.{settle}
use Rattle.dill_rules.specs.Turning.{turn, shown, may_lack_move, move_of}
use Rattle.dill_rules.specs.Expiring.{passed, expire_one}

-- the stamp of a coroutine's answer, or of a bundle's closing
pub record Stamp : Type 0 where
  pub of : ℕ
  pub at : ℕ

-- every answer that waits to be given has a stamp, and so has every bundle that is closing; stamps come from one rising counter
pub record State (V : Type 0) : Type 0 where
  pub world : World V
  pub answers : List Stamp
  pub closings : List Stamp
  pub next : ℕ

abbrev pub is_stamp_of : ℕ → Stamp → Bool
is_stamp_of number x = x.of == number

-- the stamp of a coroutine or of a bundle
abbrev pub stamp_of : List Stamp → ℕ → Option ℕ
stamp_of stamps number = option_map (λ x. x.at) (find (is_stamp_of number) stamps)

abbrev pub lesser : Stamp → Option Stamp → Stamp
lesser x None = x
lesser x (Some y) = if nat_lt y.at x.at then y else x

-- the least stamp
abbrev pub least : List Stamp → Option Stamp
least [] = None
least (x ∷ xs) = Some (lesser x (least xs))

-- stamps from one on, in this order
abbrev pub stamped : ℕ → List ℕ → List Stamp
stamped next [] = []
stamped next (n ∷ ns) = record { of = n; at = next } ∷ stamped (next + 1) ns

-- answered in this step, and without a stamp yet
abbrev pub is_fresh : Mode → Bool
is_fresh (modes.Fresh word answer) = true
is_fresh mode = false

abbrev pub lined_mode : Mode → Mode
lined_mode (modes.Fresh word answer) = modes.Answered word answer
lined_mode mode = mode

module _ {V : Type 0} where
  abbrev pub lined : Coroutine V → Coroutine V
  lined c = record c { mode = lined_mode c.mode }

  -- who was answered in this step, rising
  abbrev pub fresh : World V → List ℕ
  fresh w = map (λ c. c.number) (filter (λ c. is_fresh c.mode) w.coroutines)

  -- the bundles whose closing began in this step
  abbrev pub closed_now : World V → List Stamp → List ℕ
  closed_now w known = map (λ x. x.name) (filter (λ x. x.closing && not (list_any (is_stamp_of x.name) known)) w.scopes.bundles)

  -- The closings that begin get their stamp, and after them the answers of this step get theirs, in the order of the coroutines.
  abbrev pub line_up : World V → List Stamp → List Stamp → ℕ → State V
  line_up w answers closings next = record {
    world = record w { coroutines = map lined w.coroutines };
    answers = answers ++ stamped (next + 1) (fresh w);
    closings = closings ++ map (λ name. record { of = name; at = next }) (closed_now w closings);
    next = next + 1 + length (fresh w);
  }

  -- the world after a step, with its stamps
  abbrev pub after : State V → World V → State V
  after s w = line_up w s.answers s.closings s.next

  -- `main` has the first answer
  abbrev pub opening_state : V → Stream → State V
  opening_state view random = record { world = opening view random; answers = record { of = 1; at = 0 } ∷ []; closings = []; next = 1 }

  -- whose turn it is: the coroutine whose answer came first
  abbrev pub next_turn : State V → Option ℕ
  next_turn s = option_map (λ x. x.of) (least s.answers)

  -- somebody has an answer
  abbrev pub is_answered : State V → Bool
  is_answered s = is_some (next_turn s)

  -- the turn of a coroutine
  abbrev pub turn_of : Program V → Option LackPlace → State V → ℕ → State V
  turn_of p lack s who = line_up (turn p lack s.world who) (filter (λ x. not (is_stamp_of who x)) s.answers) s.closings s.next

  -- the next turn, where there is one
  abbrev pub turned : Program V → Option LackPlace → State V → State V
  turned p lack s = if_some (next_turn s) s (turn_of p lack s)

  -- what the next turn shows
  abbrev pub ran : Program V → Option LackPlace → State V → Option Ran
  ran p lack s = if_some (next_turn s) None (λ who. if_some (coroutine_of s.world who) None (λ c. Some (shown p lack s.world who c.body)))

  -- the next turn may be refused memory there
  abbrev pub may_lack : Program V → State V → LackPlace → Bool
  may_lack p s place = if_some (next_turn s) false (λ who. if_some (coroutine_of s.world who) false (λ c. may_lack_move p s.world who (move_of p s.world who c.body) place))

  -- one passed deadline after the other, each with its stamp
  abbrev pub expire_next : State V → ℕ → State V
  expire_next s who = after s (expire_one s.world who)

  -- the passed deadlines in order, and behind them what settles
  abbrev pub expired : State V → State V
  expired s =
      let late = fold expire_next (record s { world = begin s.world }) (passed s.world) in
      after late (settle late.world)

  -- the root is closed: everybody is cancelled
  abbrev pub shut : State V → State V
  shut s = after s (settle (record (from_start (begin s.world)) { scopes = scopes.close s.world.scopes 0 }))

  -- after a wait: the moment is the greatest that was told
  abbrev pub woke : State V → ℕ → List Ready → State V
  woke s told ready = record s { world = record (woken (begin s.world) ready) { moment = max s.world.moment told } }

  -- the reply to the next try is heard, and then the world settles
  abbrev pub hear : State V → Option KernelReply → State V
  hear s said = if_some (next_try s.world) s (λ x. after s (settle (heard (begin s.world) x said)))
