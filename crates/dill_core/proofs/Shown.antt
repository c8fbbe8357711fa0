-- What the turn of who is queued first shows, and where it may be refused memory.
use Rattle.std.proofs.Common.{◌≡◌, ◌∙◌, ℕ, List, ◌∷◌, Bool, true, false, Option, Some, None, if◌then◌else◌, refl, ap}
use Rattle.dill_calls.specs.declared.ran.LackPlace.{LackPlace}
use Rattle.dill_calls.specs.Program.{Program}
use Rattle.dill_base.specs.Maps.{if_some}
use Rattle.dill_rules.specs.declared.coroutine.Coroutine.{Coroutine}
use Rattle.dill_rules.specs.Seen.{nobody}
use Rattle.dill_rules.specs.Turning.{shown, may_lack_move, move_of, lack_met}
use Rattle.dill_rules.specs.World.{coroutine_of}
use Rattle.laws_queue.specs.Kept.{kept_ran, shown_first, may_lack_first}
use Rattle.dill_drive.specs.Machine.{may_be}
use Rattle.dill_core.specs.CoreMachine.{core_machine}
use Rattle.dill_core.specs.Holding.{Holding, kept_of}

met_place : (b : Bool) (place : LackPlace) → Some place ≡ (if b then Some place else None) → b ≡ true
met_place true place e = refl
met_place false place e = cc

module _ {V : Type 0} (p : Program V) where
  -- a refusal that was met may be
  pub lack_allowed : (h : Holding V) (who : ℕ) (rest : List ℕ) (one : Coroutine V) (lack : Option LackPlace) → h.ready ≡ who ∷ rest → coroutine_of (kept_of h).world who ≡ Some one → lack ≡ lack_met p lack (kept_of h).world who one.body → may_be (core_machine p) h lack ≡ true
  lack_allowed h who rest one None e f met = refl
  lack_allowed h who rest one (Some place) e f met =
      let w = (kept_of h).world in
      ap (λ (ready : List ℕ). may_lack_first p w ready place) e ∙ ap (λ (o : Option (Coroutine V)). if_some o false (λ c. may_lack_move p w who (move_of p w who c.body) place)) f ∙ met_place (may_lack_move p w who (move_of p w who one.body) place) place met

  -- it shows the first of the queue
  pub first_shown : (h : Holding V) (who : ℕ) (rest : List ℕ) (one : Coroutine V) (lack : Option LackPlace) → h.ready ≡ who ∷ rest → coroutine_of (kept_of h).world who ≡ Some one → kept_ran p lack (kept_of h) ≡ shown p lack (kept_of h).world who one.body
  first_shown h who rest one lack e f =
      let w = (kept_of h).world in
      ap (λ (ready : List ℕ). shown_first p lack w ready) e ∙ ap (λ (o : Option (Coroutine V)). if_some o nobody (λ c. shown p lack w who c.body)) f
