-- Laws of what a core keeps: its steps keep it well, and lead to what the steps of each state that it stands for lead to.
use Rattle.std.specs.Prelude.{◌≡◌, ℕ, ◌+◌, ◌≤◌, List, ◌∷◌, length, true, Option, Some}
use Rattle.dill_calls.specs.declared.ran.LackPlace.{LackPlace}
use Rattle.dill_calls.specs.Program.{Program, Begins, IsLawful}
use Rattle.dill_kernel.specs.declared.ready.Ready.{Ready}
use Rattle.dill_kernel.specs.declared.replies.KernelReply.{KernelReply}
use Rattle.dill_rules.specs.Hearing.{heard}
use Rattle.dill_rules.specs.Trying.{Try}
use Rattle.dill_rules.specs.declared.coroutine.Coroutine.{Coroutine}
use Rattle.dill_rules.specs.World.{World, coroutine_of, is_answered, begin}
use Rattle.dill_rules.specs.Expiring.{expire_one}
use Rattle.dill_rules.specs.Settling.{settle}
use Rattle.dill_rules.specs.State.{fresh}
use Rattle.dill_rules.specs.Turning.{turn}
use Rattle.laws_queue.specs.Kept.{Kept, opening_kept, queued, kept_turn, kept_expire_next, kept_hear, kept_expired, kept_shut, kept_woke}
use Rattle.laws_queue.specs.Well.{IsWell}

-- the first of the queue has an answer, and may be given it
pub record MayTurn {V : Type 0} (p : Program V) (w : World V) (who : ℕ) : Type 0 where
  pub one : Coroutine V
  pub found : coroutine_of w who ≡ Some one
  pub answered : is_answered one.mode ≡ true
  pub real : p.real one.body ≡ true
  pub some : 1 ≤ p.left one.body

-- room for all coroutines of a world is room for a queue and those who were answered in this step
abbrev pub HasPlaces : {V : Type 0} → List ℕ → World V → Type 0
HasPlaces ready w = length ready + length (fresh w) ≤ length w.coroutines

-- so it is of programs that keep their law, whatever they call
pub record KeepsWell {V : Type 0} (p : Program V) : Type 0 where
  pub opening : (view : V) → Begins p view → IsWell p (opening_kept view)
  pub first : (k : Kept V) (who : ℕ) (rest : List ℕ) → IsWell p k → k.ready ≡ who ∷ rest → MayTurn p k.world who
  pub turned : (k : Kept V) (lack : Option LackPlace) → IsWell p k → IsWell p (kept_turn p lack k)
  pub turn_places : (k : Kept V) (lack : Option LackPlace) (who : ℕ) (rest : List ℕ) → IsWell p k → k.ready ≡ who ∷ rest → HasPlaces rest (turn p lack k.world who)
  pub hears : (k : Kept V) (said : Option KernelReply) → IsWell p k → IsWell p (kept_hear k said)
  pub hear_places : (k : Kept V) (x : Try) (said : Option KernelReply) → IsWell p k → HasPlaces k.ready (settle (heard (begin k.world) x said))
  pub started : (k : Kept V) → IsWell p k → IsWell p (record k { world = begin k.world })
  pub expires : (k : Kept V) (who : ℕ) → IsWell p k → IsWell p (kept_expire_next k who)
  pub expire_places : (k : Kept V) (who : ℕ) → IsWell p k → HasPlaces k.ready (expire_one k.world who)
  pub settled : (k : Kept V) → IsWell p k → IsWell p (queued (settle k.world) k.ready k.early)
  pub settle_places : (k : Kept V) → IsWell p k → HasPlaces k.ready (settle k.world)
  pub expired : (k : Kept V) → IsWell p k → IsWell p (kept_expired k)
  pub shut : (k : Kept V) → IsWell p k → IsWell p (kept_shut k)
  pub woke : (k : Kept V) (told : ℕ) (ready : List Ready) → IsWell p k → IsWell p (kept_woke k told ready)

abbrev pub StepsKeepWell : {V : Type 0} → Program V → Type 0
StepsKeepWell p = IsLawful p → KeepsWell p
