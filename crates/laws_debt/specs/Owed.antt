-- What is owed while the root closes: the turns that the coroutines may still take.
use Rattle.std.specs.Prelude.{ℕ, ◌+◌, ◌==◌, List, take, sum_by, Bool, if◌then◌else◌}
use Rattle.std.specs.List.{list_any}
use Rattle.dill_calls.specs.Program.{Program}
use Rattle.dill_rules.specs.declared.coroutine.Coroutine.{Coroutine}
use Rattle.dill_rules.specs.World.{is_ending}
use Rattle.laws_queue.specs.Kept.{Kept}

module _ {V : Type 0} where
  -- none of who is ending; of an answer that came before the closing one more than the most; else what is left
  abbrev pub share_by : Program V → (ℕ → Bool) → Coroutine V → ℕ
  share_by p early c = if is_ending c.mode then 0 else (if early c.number then 1 + p.most c.body else p.left c.body)

  -- the sum over all of them
  abbrev pub owed_by : Program V → (ℕ → Bool) → List (Coroutine V) → ℕ
  owed_by p early cs = sum_by (share_by p early) cs

  -- among those who had an answer before the root began to close
  abbrev pub is_early : Kept V → ℕ → Bool
  is_early k who = list_any (λ n. n == who) (take k.early k.ready)

  abbrev pub owed : Program V → Kept V → ℕ
  owed p k = owed_by p (is_early k) k.world.coroutines
