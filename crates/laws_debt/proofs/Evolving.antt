-- How the coroutines of a world change where what the calm are answered lowers, and what stays of them.
use Rattle.std.proofs.Common.{◌≡◌, ◌+◌, ◌≤◌, ℕ, List, Bool, true, false, arith}
use Rattle.std.specs.List.{AllByRecursion}
use Rattle.dill_calls.specs.CallTable.{word_of}
use Rattle.dill_calls.specs.Program.{Program, Begins, Lowers}
use Rattle.dill_rules.specs.declared.coroutine.Coroutine.{Coroutine}
use Rattle.dill_rules.specs.declared.coroutine.Mode.{Mode}
use Rattle.dill_rules.specs.declared.coroutine.Mode.TheVariants as modes
use Rattle.dill_rules.specs.World.{is_coroutine, with_mode, is_ending}
use Rattle.laws_sound.specs.Linkless.{may_wait}
use Rattle.laws_sound.specs.Orderly.{weigh}
use Rattle.laws_sound.proofs.Counting.{weigh_without, weigh_change, total_more}
use Rattle.laws_queue.proofs.Evolving.{Evolves, newborn, stays, turns, leaves, begins, goes_on, evolves_all}

-- How a coroutine may stand next: it waits for the call that its program made, or has the answer of that call, which lowers where the coroutine is one of the calm, or it is ending.
abbrev pub Suits : {V : Type 0} → Program V → (ℕ → Bool) → Coroutine V → Mode → Type 0
Suits p calm c (modes.Pending call) = (may_wait call ≡ true) × (p.said c.body ≡ word_of call)
Suits p calm c (modes.Fresh word answer) = (p.said c.body ≡ word) × (calm c.number ≡ true → Lowers word answer)
Suits p calm c (modes.Ending outcome) = Unit {0}
Suits p calm c _ = ⊥

-- one that isn't ending stands elsewhere
abbrev pub TurnsTo : {V : Type 0} → Program V → (ℕ → Bool) → Coroutine V → Mode → Type 0
TurnsTo p calm c mode = (is_ending c.mode ≡ false) × Suits p calm c mode

abbrev pub Anybody : {V : Type 0} → Coroutine V → Type 0
Anybody c = Unit {0}

-- among the calm nobody is born
abbrev pub IsOther : (ℕ → Bool) → ℕ → Type 0
IsOther calm number = calm number ≡ false

abbrev pub EvolvesCalm : {V : Type 0} → Program V → (ℕ → Bool) → List (Coroutine V) → ℕ → List (Coroutine V) → ℕ → Type 0
EvolvesCalm p calm cs k ds l = Evolves p (TurnsTo p calm) Anybody (IsOther calm) cs k ds l

module _ {V : Type 0} (p : Program V) (calm : ℕ → Bool) where
  -- what holds of each stays so, where it holds of who stands elsewhere and of who is born
  pub evolves_calm : (P : Coroutine V → Type 0) → ((c : Coroutine V) (mode : Mode) → Suits p calm c mode → P (with_mode mode c)) → ((number : ℕ) (view : V) → Begins p view → calm number ≡ false → P (newborn number view)) → (cs ds : List (Coroutine V)) (k l : ℕ) → EvolvesCalm p calm cs k ds l → AllByRecursion P cs → AllByRecursion P ds
  evolves_calm P moved born cs ds k l e a = evolves_all p (TurnsTo p calm) Anybody (IsOther calm) P (λ c mode q b. moved c mode q.1) born cs ds k l e a

  -- a sum isn't raised, to which who isn't among the calm adds nothing, and who stands elsewhere no more than before
  pub evolves_total : (f : Coroutine V → ℕ) → ((c : Coroutine V) (mode : Mode) → is_ending c.mode ≡ false → f (with_mode mode c) ≤ f c) → ((number : ℕ) (view : V) → calm number ≡ false → f (newborn number view) ≡ 0) → (cs ds : List (Coroutine V)) (k l : ℕ) → EvolvesCalm p calm cs k ds l → weigh f ds ≤ weigh f cs
  evolves_total f moved born cs _ k _ stays = omega arith
  evolves_total f moved born cs _ k _ (turns who mode c e q) =
      let both = weigh_change f (is_coroutine who) (with_mode mode) cs c e in
      let less = moved c mode q.0 in
      omega (arith, both, less)
  evolves_total f moved born cs _ k _ (leaves who c e g) = weigh_without f (is_coroutine who) cs
  evolves_total f moved born cs _ k _ (begins view b q) = total_more f cs (newborn (k + 1) view) (born (k + 1) view q)
  evolves_total f moved born cs es k m (goes_on {ds = ds} {l = l} e g) =
      let one = evolves_total f moved born cs ds k l e in
      let two = evolves_total f moved born ds es l m g in
      omega (arith, one, two)
