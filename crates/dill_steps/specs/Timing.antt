-- Which passed deadline comes first, and what a list of the passed ones begins with.
use Rattle.std.specs.Prelude.{◌≡◌, ℕ, ◌<◌, List, [], ◌∷◌, Option, Some, None, option_map, if◌then◌else◌, nat_le}
use Rattle.dill_base.specs.Maps.{if_some}
use Rattle.dill_rules.specs.declared.coroutine.Coroutine.{Coroutine}
use Rattle.dill_rules.specs.Expiring.{Timer, is_earlier, timer_of, due_of, passed, expire_one}
use Rattle.dill_rules.specs.World.{pending_call}
use Rattle.dill_rules.specs.Waiting.{Waiter}
use Rattle.dill_calls.specs.declared.word.Word.{Word}
use Rattle.dill_calls.specs.CallTable.{word_of}
use Rattle.dill_world.specs.Store.{Store, world_of, ArePlain}
use Rattle.dill_steps.specs.declared.expiring.Late.{Late}

-- what a list begins with
abbrev pub first_of : {X : Type 0} → List X → Option X
first_of [] = None
first_of (x ∷ xs) = Some x

-- the timer of a coroutine whose deadline is passed
abbrev pub late_timer : {V : Type 0} → ℕ → Coroutine V → Option Timer
late_timer moment c = if_some (timer_of c) None (λ x. if nat_le x.due moment then Some x else None)

-- the timer that the code's is
abbrev pub as_timer : Late → Timer
as_timer x = record { due = x.due; who = x.who }

-- the earlier of a timer and the first of others
abbrev pub sooner : Timer → Option Timer → Timer
sooner x None = x
sooner x (Some y) = if is_earlier x y then x else y

-- the first of some timer, if there is one, and others
abbrev pub sooner_by : Option Timer → Option Timer → Option Timer
sooner_by None rest = rest
sooner_by (Some x) rest = Some (sooner x rest)

-- when the pending call of a coroutine expires, if it does
abbrev pub due_at : {V : Type 0} → Coroutine V → Option ℕ
due_at c = if_some (pending_call c.mode) None due_of

-- who waits, and in the call of which word
abbrev pub as_pair : Waiter → ℕ × Word
as_pair x = (x.who, x.word)

-- a coroutine that waits, and in the call of which word
abbrev pub pair_of : {V : Type 0} → Coroutine V → Option (ℕ × Word)
pair_of c = option_map (λ call. (c.number, word_of call)) (pending_call c.mode)

-- the numbers of coroutines rise
abbrev pub Rises : {V : Type 0} → ℕ → List (Coroutine V) → Type 0
Rises low [] = Unit {0}
Rises low (c ∷ cs) = (low < c.number) × Rises c.number cs

-- Where the numbers rise, the passed deadlines are given up one after the other: the others stay passed.
abbrev pub PassesOneByOne : (V : Type 0) → Type 0
PassesOneByOne V = (k : Store V) (who : ℕ) (rest : List ℕ) → ArePlain k.coroutines → Rises 0 k.coroutines → passed (world_of k) ≡ who ∷ rest → passed (expire_one (world_of k) who) ≡ rest
