-- Once the root was closed a core goes on, and owes fewer turns after each.
use Rattle.std.proofs.Common.{◌≡◌, ◌<◌, ◌≤◌, ◌^◌, true, Option, sym, subst}
use Rattle.dill_calls.specs.declared.ran.LackPlace.{LackPlace}
use Rattle.dill_calls.specs.Program.{Program}
use Rattle.laws_queue.specs.Kept.{Kept, has_answer, kept_turn, kept_shut}
use Rattle.laws_debt.specs.Closing.{IsStable, IsClosing}
use Rattle.laws_debt.specs.Laws.{EndsClosing}
use Rattle.laws_debt.specs.Owed as owing
use Rattle.dill_core.specs.Ending.{IsEnding, owed}
use Rattle.dill_core.specs.Holding.{Holding, kept_of}

module _ {V : Type 0} (p : Program V) (law : EndsClosing p) where
  ends_on : (h : Holding V) (k : Kept V) → kept_of h ≡ k → IsClosing p k → IsEnding p h
  ends_on h k same closing =
      let now : IsClosing p (kept_of h) = subst (IsClosing p) (sym same) closing in
      record { closing = now; goes_on = law.goes_on (kept_of h) now }

  pub ends_shut : (old new : Holding V) → kept_of new ≡ kept_shut (kept_of old) → IsStable p (kept_of old) → IsEnding p new
  ends_shut old new same stable = ends_on new (kept_shut (kept_of old)) same (law.shut (kept_of old) stable)

  pub owes_few : (h : Holding V) → IsEnding p h → owed p h ≤ 2 ^ 48
  owes_few h ending = law.few (kept_of h) ending.closing

  pub ends_turned : (old new : Holding V) (lack : Option LackPlace) → kept_of new ≡ kept_turn p lack (kept_of old) → IsEnding p old → IsEnding p new
  ends_turned old new lack same ending = ends_on new (kept_turn p lack (kept_of old)) same (law.turned (kept_of old) lack ending.closing)

  pub owes_fewer : (old new : Holding V) (lack : Option LackPlace) → kept_of new ≡ kept_turn p lack (kept_of old) → has_answer old.ready ≡ true → IsEnding p old → owed p new < owed p old
  owes_fewer old new lack same some ending = subst (λ (k : Kept V). owing.owed p k < owed p old) (sym same) (law.fewer (kept_of old) lack ending.closing some)
