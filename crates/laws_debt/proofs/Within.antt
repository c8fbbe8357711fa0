-- The worlds within a turn are in order.
use Rattle.std.proofs.Common.{◌≡◌, ◌∙◌, ℕ, List, ◌∷◌, Option, Some, ap, sym}
use Rattle.dill_calls.specs.declared.ran.LackPlace.{LackPlace}
use Rattle.dill_calls.specs.Program.{Program}
use Rattle.dill_rules.specs.declared.coroutine.Coroutine.{Coroutine}
use Rattle.dill_rules.specs.Settling.{settle_one}
use Rattle.dill_rules.specs.Turning.{go_on}
use Rattle.dill_rules.specs.World.{World, coroutine_of, begin, is_answered}
use Rattle.laws_queue.specs.Kept.{Kept, root_closed}
use Rattle.laws_queue.specs.Well.{IsWell}
use Rattle.laws_sound.specs.Orderly.{IsOrderly}
use Rattle.laws_queue.specs.Laws.{KeepsWell}
use Rattle.laws_sound.proofs.Answering.{settle_one_good}
use Rattle.laws_sound.proofs.Calling.{go_on_goes}
use Rattle.laws_sound.proofs.Stepping.{order_root_closed}

-- steps within a step keep a world in order
pub record KeepsWithin {V : Type 0} (p : Program V) : Type 0 where
  pub moved : (k : Kept V) (lack : Option LackPlace) (who : ℕ) (rest : List ℕ) (c : Coroutine V) → IsWell p k → IsOrderly k.world → k.ready ≡ who ∷ rest → coroutine_of k.world who ≡ Some c → IsOrderly (go_on p lack (begin k.world) who c.body)
  pub one : (w : World V) → IsOrderly w → IsOrderly (settle_one w)
  pub closed : (w : World V) → IsOrderly w → IsOrderly (root_closed w)

pub keeps_within : {V : Type 0} (p : Program V) → KeepsWell p → KeepsWithin p
keeps_within p keeps = record {
  moved = λ k lack who rest c well o e f.
      let may = keeps.first k who rest well e in
      let it : may.one ≡ c = cc in
      (go_on_goes p lack k.world who c o f (ap (λ d. is_answered d.mode) (sym it) ∙ may.answered)).good;
  one = λ w o. (settle_one_good w o).good;
  closed = λ w o. order_root_closed w o;
}
