-- What holds of all that a core keeps between two steps: who may go on, how the coroutines are numbered, and who is queued.
use Rattle.std.specs.Prelude.{◌≡◌, ℕ, ◌+◌, ◌<◌, ◌≤◌, ◌==◌, List, [], ◌∷◌, length, find, Bool, true, false, if◌then◌else◌}
use Rattle.std.specs.List.{AllByRecursion}
use Rattle.dill_calls.specs.Program.{Program}
use Rattle.dill_base.specs.Maps.{if_some}
use Rattle.dill_rules.specs.declared.coroutine.Coroutine.{Coroutine}
use Rattle.dill_rules.specs.declared.coroutine.Mode.{Mode}
use Rattle.dill_rules.specs.declared.coroutine.Mode.TheVariants as modes
use Rattle.dill_rules.specs.World.{is_coroutine, is_answered}
use Rattle.laws_queue.specs.Kept.{Kept}

-- it will have a turn: it waits for its answer or has it
abbrev pub has_more : Mode → Bool
has_more (modes.Pending call) = true
has_more (modes.Fresh word answer) = true
has_more (modes.Answered word answer) = true
has_more _ = false

-- who will have a turn may be given an answer
pub record IsAlive {V : Type 0} (p : Program V) (c : Coroutine V) : Type 0 where
  pub real : p.real c.body ≡ true
  pub some : has_more c.mode ≡ true → 1 ≤ p.left c.body

abbrev pub Lives : {V : Type 0} → Program V → List (Coroutine V) → Type 0
Lives p cs = AllByRecursion (IsAlive p) cs

-- the numbers rise, each above the first bound and none above the second
abbrev pub Numbered : {V : Type 0} → ℕ → List (Coroutine V) → ℕ → Type 0
Numbered low [] high = low ≤ high
Numbered low (c ∷ cs) high = (low < c.number) × Numbered c.number cs high

abbrev pub bit : Bool → ℕ
bit b = if b then 1 else 0

-- how often a number stands in a list
abbrev pub occurs : ℕ → List ℕ → ℕ
occurs n [] = 0
occurs n (m ∷ ms) = bit (m == n) + occurs n ms

-- the coroutine of a number is there, and its mode passes a test
abbrev pub is_at : {V : Type 0} → (Mode → Bool) → List (Coroutine V) → ℕ → Bool
is_at test cs n = if_some (find (is_coroutine n) cs) false (λ c. test c.mode)

-- how many have a mode that passes a test
abbrev pub counts : {V : Type 0} → (Mode → Bool) → List (Coroutine V) → ℕ
counts test [] = 0
counts test (c ∷ cs) = bit (test c.mode) + counts test cs

-- who has an answer is queued, once, and nobody else
pub record IsQueue {V : Type 0} (ready : List ℕ) (cs : List (Coroutine V)) : Type 0 where
  pub once : (n : ℕ) → occurs n ready ≡ bit (is_at is_answered cs n)
  pub all : length ready ≡ counts is_answered cs

pub record IsWell {V : Type 0} (p : Program V) (k : Kept V) : Type 0 where
  pub lives : Lives p k.world.coroutines
  pub numbered : Numbered 0 k.world.coroutines k.world.last_coroutine
  pub queue : IsQueue k.ready k.world.coroutines
