-- What holds of a state between two steps: what a core keeps stands for it, each closing has its stamp, and what is given to who is inside a bundle that is closing lowers.
use Rattle.dill_rules.specs.Settling.{IsSettled}
use Rattle.std.specs.Prelude.{◌≡◌, ℕ, ◌<◌, ◌≤◌, true, is_some}
use Rattle.std.specs.List.{AllByRecursion}
use Rattle.dill_calls.specs.Program.{Program}
use Rattle.dill_scope.specs.Scopes.{is_inside}
use Rattle.dill_rules.specs.Debts.{is_early}
use Rattle.dill_rules.specs.State.{State, stamp_of}
use Rattle.laws_queue.specs.Kept.{Kept}
use Rattle.laws_queue.specs.Stands.{StandsFor}
use Rattle.laws_sound.specs.Laws.{is_closing}
use Rattle.laws_debt.specs.Closing.{IsStable}
use Rattle.laws_debt.specs.Says.{IsLowering}

module _ {V : Type 0} where
  -- stamps of bundles that were made, each before the next one; and exactly the bundles that are closing have one
  pub record HasStamps (s : State V) : Type 0 where
    pub low : AllByRecursion (λ x. (x.of ≤ s.world.last_bundle) × (x.at < s.next)) s.closings
    pub each : AllByRecursion (λ y. is_some (stamp_of s.closings y.name) ≡ y.closing) s.world.scopes.bundles

  -- each answer of who is inside a bundle lowers, that came after the closing of the bundle
  abbrev pub LowersInside : State V → ℕ → Type 0
  LowersInside s b = AllByRecursion (λ c. is_inside s.world.scopes b c.number ≡ true → IsLowering (is_early s b) c) s.world.coroutines

  -- between the parts of a step
  pub record IsEven (p : Program V) (s : State V) : Type 0 where
    pub kept : Kept V
    pub stable : IsStable p kept
    pub stands : StandsFor kept s
    pub stamps : HasStamps s
    pub lowers : (b : ℕ) → is_closing s.world.scopes b ≡ true → LowersInside s b

  -- between two steps nothing is due besides
  pub record IsSteady (p : Program V) (s : State V) : Type 0 where
    pub even : IsEven p s
    pub settled : IsSettled even.kept.world
