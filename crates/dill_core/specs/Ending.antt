-- What is so of a core once its root was closed, and how many turns may still come.
use Rattle.std.specs.Prelude.{◌≡◌, ℕ, true, None}
use Rattle.dill_calls.specs.Program.{Program}
use Rattle.laws_queue.specs.Kept.{has_answer}
use Rattle.laws_debt.specs.Closing.{IsClosing}
use Rattle.laws_debt.specs.Owed as owing
use Rattle.dill_core.specs.Holding.{Holding, kept_of}

module _ {V : Type 0} where
  -- the root is closing, and as long as `main` hasn't ended somebody has an answer
  pub record IsEnding (p : Program V) (h : Holding V) : Type 0 where
    pub closing : IsClosing p (kept_of h)
    pub goes_on : h.world.ended ≡ None → has_answer h.ready ≡ true

  abbrev pub owed : Program V → Holding V → ℕ
  owed p h = owing.owed p (kept_of h)
