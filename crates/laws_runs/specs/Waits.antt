-- Whom they wait for who wait for a bundle to be empty: for somebody who lives in it.
use Rattle.std.specs.Prelude.{◌≡◌, ℕ, false, Option, Some}
use Rattle.dill_base.specs.declared.deadline.Deadline.{Deadline}
use Rattle.dill_base.specs.declared.errno.Errno.{Errno}
use Rattle.dill_calls.specs.declared.call.Call.TheVariants as calls
use Rattle.dill_calls.specs.Program.{Program}
use Rattle.dill_scope.specs.Scopes.{is_empty, owner_of}
use Rattle.dill_rules.specs.declared.coroutine.Coroutine.{Coroutine}
use Rattle.dill_rules.specs.declared.coroutine.Mode.TheVariants as modes
use Rattle.dill_rules.specs.Answers.{bundle_dead_as}
use Rattle.dill_rules.specs.Kinds.{is_dead}
use Rattle.dill_rules.specs.State.{State}
use Rattle.dill_rules.specs.Taking.{bundle_named, is_cancelled}
use Rattle.dill_rules.specs.World.{World, call_of, coroutine_of}
use Rattle.laws_debt.specs.Steady.{IsSteady}

module _ {V : Type 0} where
  -- A number died with the closing of a bundle that this coroutine owns, and somebody lives in that bundle.
  pub record ClosesLived (w : World V) (who number : ℕ) : Type 0 where
    pub name : ℕ
    pub dead : bundle_dead_as w number ≡ Some name
    pub owned : owner_of w.scopes name ≡ Some who
    pub lived : is_empty w.scopes name ≡ false

  -- Nobody has cancelled this coroutine, the number is live, and if it names a bundle somebody lives in that.
  pub record AwaitsLived (w : World V) (who number : ℕ) : Type 0 where
    pub going : is_cancelled w who ≡ false
    pub live : is_dead w number ≡ false
    pub lived : (name : ℕ) → bundle_named w number ≡ Some name → is_empty w.scopes name ≡ false

  -- This coroutine owns a bundle in which somebody lives.
  pub record OwnsLived (w : World V) (who : ℕ) : Type 0 where
    pub name : ℕ
    pub owned : owner_of w.scopes name ≡ Some who
    pub lived : is_empty w.scopes name ≡ false

  -- Whoever is pending in `hclose` or `bundle_wait`, or is ending, waits for somebody who lives in the bundle.
  pub record WaitsForSomebody (w : World V) : Type 0 where
    pub closing : (who number : ℕ) → call_of w who ≡ Some (calls.Hclose number) → ClosesLived w who number
    pub awaiting : (who number : ℕ) (deadline : Deadline) → call_of w who ≡ Some (calls.BundleWait number deadline) → AwaitsLived w who number
    pub ending : (who : ℕ) (c : Coroutine V) (outcome : Option Errno) → coroutine_of w who ≡ Some c → c.mode ≡ modes.Ending outcome → OwnsLived w who

-- So it is in each steady state. An `hclose` is answered in the step in which the last one of its bundle goes, and a coroutine that is ending is gone in the step in which the last one of its bundles goes.
abbrev pub WaitingIsForSomebody : {V : Type 0} → Program V → Type 0
WaitingIsForSomebody {V} p = (s : State V) → IsSteady p s → WaitsForSomebody s.world
