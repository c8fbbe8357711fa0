-- A run computed from what comes from outside: the kernel's replies, the refusals of memory, and how much was written before a write failed.
use Rattle.std.specs.Prelude.{◌≡◌, ℕ, zero, suc, ◌+◌, ◌-◌, List, [], ◌∷◌, ◌++◌, length, take, Option, Some, None, Bool, ◌&&◌, ◌==◌, nat_lt, if◌then◌else◌}
use Rattle.rand_core.specs.Stream.{Stream}
use Rattle.dill_base.specs.declared.status.Status.TheVariants.{Well}
use Rattle.dill_calls.specs.declared.ran.LackPlace.{LackPlace}
use Rattle.dill_kernel.specs.declared.replies.KernelAsk.{KernelAsk}
use Rattle.dill_kernel.specs.declared.replies.KernelAsk.TheVariants.{Wait}
use Rattle.dill_kernel.specs.declared.replies.KernelReply.{KernelReply}
use Rattle.dill_kernel.specs.Replay.{reply_to, replies_after}
use Rattle.dill_drive.specs.Machine.{Machine}
use Rattle.dill_drive.specs.Story.{Place, Asking, Trying, Due, Last, Closes, Writing, Over, Round, Config, here, no_tally, after_test, after_wait, after_try, after_turn, after_last, written, halted}

-- a refusal of memory: in the turn of this number, counted from 1, those after a stop too
abbrev pub Lack : Type 0
Lack = ℕ × LackPlace

pub record Playing (S : Type 0) : Type 0 where
  pub config : Config S
  -- what is still to come from outside: replies, refusals, and the number of bytes after which a write fails
  pub replies : List KernelReply
  pub lacks : List Lack
  pub halt : Option ℕ
  -- what was asked of the kernel and what went out so far
  pub asks : List KernelAsk
  pub bytes : List ℕ

-- whether a refusal is meant for the turn of this number and may come there
abbrev pub is_met : (LackPlace → Bool) → ℕ → Lack → Bool
is_met may turn lack = (lack.0 == turn) && may lack.1

-- the refusal in the turn of this number: the first one that is met there
abbrev pub lack_at : (LackPlace → Bool) → ℕ → List Lack → Option LackPlace
lack_at may turn [] = None
lack_at may turn (lack ∷ lacks) = if is_met may turn lack then Some lack.1 else lack_at may turn lacks

-- .. which is used up; all others are left
abbrev pub lacks_after : (LackPlace → Bool) → ℕ → List Lack → List Lack
lacks_after may turn [] = []
lacks_after may turn (lack ∷ lacks) = if is_met may turn lack then lacks else lack ∷ lacks_after may turn lacks

-- how many of so many bytes go out behind those that did, where the write fails
abbrev pub halt_within : Option ℕ → ℕ → ℕ → Option ℕ
halt_within None shown size = None
halt_within (Some total) shown size = if nat_lt total (shown + size) then Some (total - shown) else None

module _ {S : Type 0} (m : Machine S) (traced : Bool) (most : ℕ) where
  -- the kernel is asked
  abbrev pub asks_wait : Playing S → Playing S
  asks_wait p =
      let ask = Wait (m.limit p.config.state) in
      record p { config = after_wait m traced most p.config (reply_to ask p.replies); replies = replies_after ask p.replies; asks = p.asks ++ ask ∷ [] }

  -- a try, where one is due
  abbrev pub asks_try : Playing S → Option KernelAsk → Playing S
  asks_try p None = record p { config = after_test m traced most p.config p.config.place }
  asks_try p (Some ask) = record p { config = after_try m traced most p.config ask (reply_to ask p.replies); replies = replies_after ask p.replies; asks = p.asks ++ ask ∷ [] }

  abbrev pub turn_number : Config S → ℕ
  turn_number c = c.tally.turns + c.tally.closing + 1

  abbrev pub lack_of : Playing S → Option LackPlace
  lack_of p = lack_at (m.may_lack p.config.state) (turn_number p.config) p.lacks

  -- somebody is given an answer
  abbrev pub turns_one : Playing S → (Option LackPlace → Config S) → Playing S
  turns_one p after = record p { config = after (lack_of p); lacks = lacks_after (m.may_lack p.config.state) (turn_number p.config) p.lacks }

  -- the lines that are due go out, all of them or a part
  abbrev pub writes : Playing S → Place → Option ℕ → Playing S
  writes p next None = record p { config = written m traced most p.config next; bytes = p.bytes ++ p.config.due }
  writes p next (Some count) = record p { config = halted m traced most p.config next; halt = None; bytes = p.bytes ++ take count p.config.due }

  -- one step of a run, by its place
  abbrev pub advance_at : Playing S → Place → Playing S
  advance_at p Asking = asks_wait p
  advance_at p Trying = asks_try p (m.next_try p.config.state)
  advance_at p Closes = asks_try p (m.next_try p.config.state)
  advance_at p (Due left) = turns_one p (after_turn m traced most p.config left)
  advance_at p Last = turns_one p (after_last m traced most p.config)
  advance_at p (Writing next) = writes p next (halt_within p.halt (length p.bytes) (length p.config.due))
  advance_at p Over = p
  advance_at p other = record p { config = after_test m traced most p.config other }

  abbrev pub advance : Playing S → Playing S
  advance p = advance_at p p.config.place

  -- so many steps; a run that is over stays as it is
  abbrev pub play : ℕ → Playing S → Playing S
  play zero p = p
  play (suc n) p = play n (advance p)

  -- a run before its first round
  abbrev pub opening : S → Stream → List KernelReply → List Lack → Option ℕ → Playing S
  opening state keys replies lacks halt = record { config = here state Round Well no_tally keys; replies = replies; lacks = lacks; halt = halt; asks = []; bytes = [] }

  abbrev pub IsOver : Playing S → Type 0
  IsOver p = p.config.place ≡ Over

  -- what comes from outside determines a run: however many steps lead to its end, it is the same end
  abbrev pub OneEnd : Type 0
  OneEnd = (p : Playing S) (n k : ℕ) → IsOver (play n p) → IsOver (play k p) → play n p ≡ play k p
