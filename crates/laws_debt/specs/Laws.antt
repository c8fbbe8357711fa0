-- Laws of a closing root: each step keeps what holds between steps, and once the root closes each turn lowers what is owed.
use Rattle.std.specs.Prelude.{◌≡◌, ℕ, ◌<◌, ◌≤◌, ◌^◌, List, length, fold, true, Option, None, is_some, if◌then◌else◌}
use Rattle.dill_calls.specs.declared.ran.LackPlace.{LackPlace}
use Rattle.dill_calls.specs.Program.{Program, IsLawful, Begins}
use Rattle.dill_kernel.specs.declared.ready.Ready.{Ready}
use Rattle.dill_rules.specs.Settling.{settle}
use Rattle.dill_rules.specs.World.{begin}
use Rattle.laws_sound.specs.Linkless.{MakesLinkless}
use Rattle.laws_queue.specs.Kept.{Kept, has_answer, opening_kept, queued, kept_turn, kept_expire_next, kept_expired, kept_shut, kept_woke}
use Rattle.laws_sound.specs.Laws.{is_timed}
use Rattle.laws_debt.specs.Owed.{owed}
use Rattle.laws_debt.specs.Closing.{IsStable, IsClosing}

-- so it is of programs that make no call of a link
pub record KeepsStable {V : Type 0} (p : Program V) : Type 0 where
  pub opening : (view : V) → Begins p view → IsStable p (opening_kept view)
  pub turned : (k : Kept V) (lack : Option LackPlace) → IsStable p k → IsStable p (kept_turn p lack k)
  pub started : (k : Kept V) → IsStable p k → IsStable p (record k { world = begin k.world })
  pub expires : (k : Kept V) (who : ℕ) → IsStable p k → is_timed k.world who ≡ true → IsStable p (kept_expire_next k who)
  pub settled : (k : Kept V) → IsStable p k → IsStable p (queued (settle k.world) k.ready k.early)
  pub expired : (k : Kept V) → IsStable p k → IsStable p (kept_expired k)
  pub shut : (k : Kept V) → IsStable p k → IsStable p (kept_shut k)
  pub woke : (k : Kept V) (told : ℕ) (ready : List Ready) → IsStable p k → IsStable p (kept_woke k told ready)

abbrev pub StepsKeepStable : {V : Type 0} → Program V → Type 0
StepsKeepStable p = IsLawful p → MakesLinkless p → KeepsStable p

-- a turn, as long as `main` hasn't ended
abbrev pub turn_until : {V : Type 0} → Program V → Kept V → Option LackPlace → Kept V
turn_until p k lack = if is_some k.world.ended then k else kept_turn p lack k

-- From the closing of the root on, each turn lowers what is owed, and as long as `main` hasn't ended somebody has an answer; so it ends within as many turns as are owed, wherever memory is refused.
pub record EndsClosing {V : Type 0} (p : Program V) : Type 0 where
  pub shut : (k : Kept V) → IsStable p k → IsClosing p (kept_shut k)
  pub turned : (k : Kept V) (lack : Option LackPlace) → IsClosing p k → IsClosing p (kept_turn p lack k)
  pub fewer : (k : Kept V) (lack : Option LackPlace) → IsClosing p k → has_answer k.ready ≡ true → owed p (kept_turn p lack k) < owed p k
  pub few : (k : Kept V) → IsClosing p k → owed p k ≤ 2 ^ 48
  pub goes_on : (k : Kept V) → IsClosing p k → k.world.ended ≡ None → has_answer k.ready ≡ true
  pub ends : (k : Kept V) (lacks : List (Option LackPlace)) → IsClosing p k → owed p k ≤ length lacks → is_some (fold (turn_until p) k lacks).world.ended ≡ true

abbrev pub RootDebtFalls : {V : Type 0} → Program V → Type 0
RootDebtFalls p = IsLawful p → MakesLinkless p → EndsClosing p
