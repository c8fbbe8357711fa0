-- Once a run has stopped, `main` ends within as many turns as are owed.
use Rattle.std.specs.Prelude.{◌≡◌, ◌⊎◌, ℕ, ◌≤◌, ◌^◌, ◌+◌, ◌*◌, List, Option, Bool, true, false, is_some}
use Rattle.rand_core.specs.Stream.{Stream}
use Rattle.dill_calls.specs.Program.{Program, Begins}
use Rattle.dill_kernel.specs.declared.replies.KernelReply.{KernelReply}
use Rattle.dill_rules.specs.Debts.{debt}
use Rattle.dill_rules.specs.State.{State, opening_state, shut}
use Rattle.dill_drive.specs.ByRules.{machine_of}
use Rattle.dill_drive.specs.Play.{IsOver, Lack, Playing, advance, opening, play}
use Rattle.dill_drive.specs.Story.{Closing, Config, Writing}
use Rattle.laws_queue.specs.Kept.{Kept, kept_shut}
use Rattle.laws_queue.specs.Stands.{StandsFor}
use Rattle.laws_sound.specs.Laws.{is_closing}
use Rattle.laws_debt.specs.Closing.{IsStable}
use Rattle.laws_debt.specs.Owed.{owed}

-- The root of a state was closed, the lines of that step went out or are still to, and no turn was made since.
pub record IsAtStop {V : Type 0} (s : State V) (c : Config (State V)) : Type 0 where
  pub place : (c.place ≡ Closing) ⊎ (c.place ≡ Writing Closing)
  pub state : c.state ≡ shut s
  pub none : c.tally.closing ≡ 0

-- From a stop on, however far the run goes and whatever comes from outside, the turns that were made since are at most what is owed of what a core keeps of the state.
abbrev pub ClosingIsBounded : {V : Type 0} → Program V → Type 0
ClosingIsBounded {V} p = (k : Kept V) (s : State V) (traced : Bool) (most : ℕ) (run : Playing (State V)) → StandsFor k s → IsStable p k → IsAtStop s run.config → (n : ℕ) → (play (machine_of p) traced most n run).config.tally.closing ≤ owed p (kept_shut k)

-- From a stop on, after three steps for each turn that is owed and four more the run is over, and `main` has ended.
abbrev pub StoppedRunsEnd : {V : Type 0} → Program V → Type 0
StoppedRunsEnd {V} p = (k : Kept V) (s : State V) (traced : Bool) (most : ℕ) (run : Playing (State V)) → StandsFor k s → IsStable p k → IsAtStop s run.config → (n : ℕ) → 3 * owed p (kept_shut k) + 4 ≤ n
    → IsOver (machine_of p) traced most (play (machine_of p) traced most n run) × (is_some (play (machine_of p) traced most n run).config.state.world.ended ≡ true)

-- a run from its beginning, one step behind so many
abbrev pub stepped : {V : Type 0} → Program V → Bool → ℕ → Playing (State V) → ℕ → Playing (State V)
stepped p traced most begun steps = advance (machine_of p) traced most (play (machine_of p) traced most steps begun)

-- A run stops: the step behind so many closes the root, which was open. No more turns are counted than its debt is there.
pub record StopsWithin {V : Type 0} (p : Program V) (traced : Bool) (most : ℕ) (begun : Playing (State V)) (count : ℕ) : Type 0 where
  pub steps : ℕ
  pub open_root : is_closing (play (machine_of p) traced most steps begun).config.state.world.scopes 0 ≡ false
  pub stop : IsAtStop (play (machine_of p) traced most steps begun).config.state (stepped p traced most begun steps).config
  pub few : count ≤ debt p (stepped p traced most begun steps).config.state 0
  pub small : debt p (stepped p traced most begun steps).config.state 0 ≤ 2 ^ 48

-- Of each run from its beginning, however far it goes: it has counted no turn after a stop, or it stops and has counted no more of them than the debt of the root was there.
abbrev pub RunsAreBounded : {V : Type 0} → Program V → Type 0
RunsAreBounded {V} p = (view : V) (random keys : Stream) (traced : Bool) (most : ℕ) (replies : List KernelReply) (lacks : List Lack) (halt : Option ℕ) (n : ℕ) → Begins p view
    → let begun = opening (machine_of p) traced most (opening_state view random) keys replies lacks halt in
    let count = (play (machine_of p) traced most n begun).config.tally.closing in
    (count ≡ 0) ⊎ StopsWithin p traced most begun count
