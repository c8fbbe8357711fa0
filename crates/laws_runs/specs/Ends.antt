-- How a run from its beginning ends once it has stopped.
use Rattle.std.specs.Prelude.{◌≡◌, ℕ, ◌+◌, ◌*◌, ◌≤◌, List, Option, Bool, true, false, is_some}
use Rattle.rand_core.specs.Stream.{Stream}
use Rattle.dill_calls.specs.Program.{Program, Begins}
use Rattle.dill_kernel.specs.declared.replies.KernelReply.{KernelReply}
use Rattle.dill_rules.specs.Debts.{debt}
use Rattle.dill_rules.specs.State.{State, opening_state}
use Rattle.dill_drive.specs.ByRules.{machine_of}
use Rattle.dill_drive.specs.Play.{IsOver, Lack, Playing, opening, play}
use Rattle.laws_sound.specs.Laws.{is_closing}
use Rattle.laws_runs.specs.Bound.{IsAtStop, stepped}

-- The step behind so many closes the root, which was open.
pub record StopsAt {V : Type 0} (p : Program V) (traced : Bool) (most : ℕ) (begun : Playing (State V)) (steps : ℕ) : Type 0 where
  pub open_root : is_closing (play (machine_of p) traced most steps begun).config.state.world.scopes 0 ≡ false
  pub stop : IsAtStop (play (machine_of p) traced most steps begun).config.state (stepped p traced most begun steps).config

-- After so many steps more the run is over, and `main` has ended.
pub record HasEnded {V : Type 0} (p : Program V) (traced : Bool) (most : ℕ) (run : Playing (State V)) (n : ℕ) : Type 0 where
  pub over : IsOver (machine_of p) traced most (play (machine_of p) traced most n run)
  pub ended : is_some (play (machine_of p) traced most n run).config.state.world.ended ≡ true

-- From a stop on no more turns are made than the debt of the root is there, and the run has ended after three steps for each turn of that debt and four more.
pub record EndsWell {V : Type 0} (p : Program V) (traced : Bool) (most : ℕ) (run : Playing (State V)) : Type 0 where
  pub few : (n : ℕ) → (play (machine_of p) traced most n run).config.tally.closing ≤ debt p run.config.state 0
  pub ends : (n : ℕ) → 3 * debt p run.config.state 0 + 4 ≤ n → HasEnded p traced most run n

-- So it is of each run from its beginning, whenever it stops and whatever comes from outside.
abbrev pub RunsEnd : {V : Type 0} → Program V → Type 0
RunsEnd {V} p = (view : V) (random keys : Stream) (traced : Bool) (most : ℕ) (replies : List KernelReply) (lacks : List Lack) (halt : Option ℕ) (steps : ℕ) → Begins p view
    → let begun = opening (machine_of p) traced most (opening_state view random) keys replies lacks halt in
    StopsAt p traced most begun steps → EndsWell p traced most (stepped p traced most begun steps)
