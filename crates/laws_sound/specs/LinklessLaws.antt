-- Laws of worlds without links, as programs that make no call of a link have them: each step leaves them so, and looks at no random number.
use Rattle.std.specs.Prelude.{◌≡◌, ℕ, List, Option, None}
use Rattle.rand_core.specs.Stream.{Stream}
use Rattle.dill_calls.specs.declared.ran.LackPlace.{LackPlace}
use Rattle.dill_calls.specs.Program.{Program, IsLawful}
use Rattle.dill_kernel.specs.declared.ready.Ready.{Ready}
use Rattle.dill_rules.specs.Seen.{turn_seen, ask_seen}
use Rattle.dill_rules.specs.Settling.{settle}
use Rattle.dill_rules.specs.State.{State, opening_state, expired, shut, woke}
use Rattle.laws_queue.specs.Following.{SeenAlike}
use Rattle.laws_queue.specs.Kept.{Kept, opening_kept, queued, kept_turn, kept_expire_next, kept_expired, kept_shut, kept_woke}
use Rattle.laws_queue.specs.Stands.{StandsFor}
use Rattle.laws_queue.specs.Well.{IsWell}
use Rattle.laws_sound.specs.Linkless.{MakesLinkless, IsLinkless}

pub record KeepsLinkless {V : Type 0} (p : Program V) : Type 0 where
  pub opening : (view : V) → IsLinkless (opening_kept view).world
  pub turned : (k : Kept V) (lack : Option LackPlace) → IsWell p k → IsLinkless k.world → IsLinkless (kept_turn p lack k).world
  pub expires : (k : Kept V) (who : ℕ) → IsLinkless k.world → IsLinkless (kept_expire_next k who).world
  pub settled : (k : Kept V) → IsLinkless k.world → IsLinkless (queued (settle k.world) k.ready k.early).world
  pub expired : (k : Kept V) → IsLinkless k.world → IsLinkless (kept_expired k).world
  pub shut : (k : Kept V) → IsLinkless k.world → IsLinkless (kept_shut k).world
  pub woke : (k : Kept V) (told : ℕ) (ready : List Ready) → IsLinkless k.world → IsLinkless (kept_woke k told ready).world

abbrev pub StepsKeepLinkless : {V : Type 0} → Program V → Type 0
StepsKeepLinkless p = IsLawful p → MakesLinkless p → KeepsLinkless p

-- The steps of what is kept are those of the state with no random number lent, none is drawn, and nothing is asked of the kernel.
pub record FollowsLinkless {V : Type 0} (p : Program V) : Type 0 where
  pub opening : (view : V) (random : Stream) → StandsFor (opening_kept view) (opening_state view random)
  pub seen : (k : Kept V) (s : State V) → IsWell p k → StandsFor k s → SeenAlike p k s
  pub next_try : (k : Kept V) (s : State V) → IsLinkless k.world → StandsFor k s → ask_seen s ≡ None
  pub turned : (k : Kept V) (s : State V) (lack : Option LackPlace) (random : Stream) → IsWell p k → IsLinkless k.world → StandsFor k s → StandsFor (kept_turn p lack k) (turn_seen p s lack random).0
  pub random : (k : Kept V) (s : State V) (lack : Option LackPlace) (random : Stream) → IsWell p k → IsLinkless k.world → StandsFor k s → (turn_seen p s lack random).1 ≡ random
  pub expired : (k : Kept V) (s : State V) → IsLinkless k.world → StandsFor k s → StandsFor (kept_expired k) (expired s)
  pub shut : (k : Kept V) (s : State V) → IsLinkless k.world → StandsFor k s → StandsFor (kept_shut k) (shut s)
  pub woke : (k : Kept V) (s : State V) (told : ℕ) (ready : List Ready) → StandsFor k s → StandsFor (kept_woke k told ready) (woke s told ready)

abbrev pub FollowsStatesLinkless : {V : Type 0} → Program V → Type 0
FollowsStatesLinkless p = IsLawful p → MakesLinkless p → FollowsLinkless p
