-- When a bundle that is closing goes: once nobody is left of those inside it.
use Rattle.std.specs.Prelude.{◌≡◌, ℕ, true, false, find, is_some}
use Rattle.dill_calls.specs.Program.{Program}
use Rattle.dill_scope.specs.Scopes.{is_bundle, is_inside}
use Rattle.dill_rules.specs.State.{State}
use Rattle.laws_sound.specs.Laws.{is_closing}
use Rattle.laws_sound.specs.Order.{is_there}
use Rattle.laws_debt.specs.Debts.{Step, step}
use Rattle.laws_debt.specs.Steady.{IsSteady}

-- If a bundle that is closing is gone after a step, then nobody who was inside it is there after that step.
abbrev pub BundlesGoEmpty : {V : Type 0} → Program V → Type 0
BundlesGoEmpty {V} p = (s : State V) (x : Step) (b : ℕ) → IsSteady p s → is_closing s.world.scopes b ≡ true → is_some (find (is_bundle b) (step p s x).world.scopes.bundles) ≡ false
    → (n : ℕ) → is_there (step p s x).world n ≡ true → is_inside s.world.scopes b n ≡ false
