-- How the coroutines of a world change from step to step, and what stays of them.
use Rattle.std.proofs.Common.{◌≡◌, ℕ, ◌+◌, List, [], ◌∷◌, ◌++◌, find, Some, refl, arith}
use Rattle.std.specs.List.{AllByRecursion}
use Rattle.dill_calls.specs.declared.answer.Answer.TheVariants.{Number}
use Rattle.dill_calls.specs.declared.word.Word.TheVariants.{Start}
use Rattle.dill_calls.specs.Program.{Program, Begins}
use Rattle.dill_base.specs.Maps.{change, without}
use Rattle.dill_rules.specs.declared.coroutine.Coroutine.{Coroutine}
use Rattle.dill_rules.specs.declared.coroutine.Mode.{Mode}
use Rattle.dill_rules.specs.declared.coroutine.Mode.TheVariants as modes
use Rattle.dill_rules.specs.World.{is_coroutine, with_mode}
use Rattle.laws_queue.specs.Well.{Numbered}
use Rattle.laws_queue.proofs.Lists.{all_append, all_without, all_change, all_found}
use Rattle.laws_queue.proofs.Numbers.{numbered_change, numbered_without, numbered_append}

-- a coroutine before its first turn
abbrev pub newborn : {V : Type 0} → ℕ → V → Coroutine V
newborn number view = record { number = number; body = view; mode = modes.Fresh Start (Number 0) }

-- The coroutines and the last number before, and after. `Q` says how one may stand next, `G` who may be gone, and `N` which number may be given.
pub data Evolves {V : Type 0} (p : Program V) (Q : Coroutine V → Mode → Type 0) (G : Coroutine V → Type 0) (N : ℕ → Type 0) : List (Coroutine V) → ℕ → List (Coroutine V) → ℕ → Type 0 where
  stays : {cs : List (Coroutine V)} {last : ℕ} → Evolves p Q G N cs last cs last
  -- one stands elsewhere
  turns : {cs : List (Coroutine V)} {last : ℕ} (who : ℕ) (mode : Mode) (c : Coroutine V) → find (is_coroutine who) cs ≡ Some c → Q c mode → Evolves p Q G N cs last (change (is_coroutine who) (with_mode mode) cs) last
  -- one is gone
  leaves : {cs : List (Coroutine V)} {last : ℕ} (who : ℕ) (c : Coroutine V) → find (is_coroutine who) cs ≡ Some c → G c → Evolves p Q G N cs last (without (is_coroutine who) cs) last
  -- a new one begins
  begins : {cs : List (Coroutine V)} {last : ℕ} (view : V) → Begins p view → N (last + 1) → Evolves p Q G N cs last (cs ++ newborn (last + 1) view ∷ []) (last + 1)
  goes_on : {cs ds es : List (Coroutine V)} {k l m : ℕ} → Evolves p Q G N cs k ds l → Evolves p Q G N ds l es m → Evolves p Q G N cs k es m

module _ {V : Type 0} (p : Program V) (Q : Coroutine V → Mode → Type 0) (G : Coroutine V → Type 0) (N : ℕ → Type 0) where
  -- the numbers still rise
  pub evolves_numbered : (cs ds : List (Coroutine V)) (k l : ℕ) → Evolves p Q G N cs k ds l → Numbered 0 cs k → Numbered 0 ds l
  evolves_numbered cs _ k _ stays h = h
  evolves_numbered cs _ k _ (turns who mode c e q) h = numbered_change (is_coroutine who) (with_mode mode) cs 0 k (λ d. refl) h
  evolves_numbered cs _ k _ (leaves who c e g) h = numbered_without (is_coroutine who) cs 0 k h
  evolves_numbered cs _ k _ (begins view b n) h = numbered_append (newborn (k + 1) view) cs 0 k h (omega arith)
  evolves_numbered cs es k m (goes_on {ds = ds} {l = l} e f) h = evolves_numbered ds es l m f (evolves_numbered cs ds k l e h)

  -- what holds of each stays so, where it holds of who stands elsewhere and of who is born
  pub evolves_all : (P : Coroutine V → Type 0) → ((c : Coroutine V) (mode : Mode) → Q c mode → P c → P (with_mode mode c)) → ((number : ℕ) (view : V) → Begins p view → N number → P (newborn number view)) → (cs ds : List (Coroutine V)) (k l : ℕ) → Evolves p Q G N cs k ds l → AllByRecursion P cs → AllByRecursion P ds
  evolves_all P moved born cs _ k _ stays a = a
  evolves_all P moved born cs _ k _ (turns who mode c e q) a = all_change P (is_coroutine who) (with_mode mode) c cs e (moved c mode q (all_found P (is_coroutine who) c cs e a)) a
  evolves_all P moved born cs _ k _ (leaves who c e g) a = all_without P (is_coroutine who) cs a
  evolves_all P moved born cs _ k _ (begins view b n) a = all_append P cs (newborn (k + 1) view ∷ []) a (born (k + 1) view b n, tt)
  evolves_all P moved born cs es k m (goes_on {ds = ds} {l = l} e f) a = evolves_all P moved born ds es l m f (evolves_all P moved born cs ds k l e a)
