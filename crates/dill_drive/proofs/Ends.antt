-- A run that is over stays as it is, so it has one end.
use Rattle.std.proofs.Common.{◌≡◌, ◌∙◌, ℕ, zero, suc, Bool, refl, sym, ap}
use Rattle.dill_drive.specs.Machine.{Machine}
use Rattle.dill_drive.specs.Story.{Place}
use Rattle.dill_drive.specs.Play.{Playing, advance, advance_at, play, IsOver, OneEnd}

module _ {S : Type 0} (m : Machine S) (traced : Bool) (most : ℕ) where
  rests : (p : Playing S) → IsOver m traced most p → advance m traced most p ≡ p
  rests p over = ap (λ (place : Place). advance_at m traced most p place) over

  stays : (n : ℕ) (p : Playing S) → IsOver m traced most p → play m traced most n p ≡ p
  stays zero p over = refl
  stays (suc n) p over = ap (play m traced most n) (rests p over) ∙ stays n p over

  pub one_end : OneEnd m traced most
  one_end p zero k over over' = sym (stays k p over)
  one_end p (suc n) zero over over' = ap (play m traced most n) (rests p over') ∙ stays n p over'
  one_end p (suc n) (suc k) over over' = one_end (advance m traced most p) n k over over'
