-- What the laws of closing say of the run of a script that was read.
use Rattle.std.specs.Prelude.{◌≡◌, ◌⊎◌, ℕ, List, Option, Bool, Ok}
use Rattle.rand_core.specs.Stream.{Stream}
use Rattle.dill_kernel.specs.declared.replies.KernelReply.{KernelReply}
use Rattle.dill_rules.specs.State.{State, opening_state}
use Rattle.dill_drive.specs.ByRules.{machine_of}
use Rattle.dill_drive.specs.Play.{Lack, Playing, opening, play}
use Rattle.laws_debt.specs.Steady.{IsSteady}
use Rattle.laws_runs.specs.Bound.{StopsWithin, stepped}
use Rattle.laws_runs.specs.Closes.{ClosesWell}
use Rattle.laws_runs.specs.Ends.{EndsWell, StopsAt}
use Rattle.laws_runs.specs.Waits.{WaitsForSomebody}
use Rattle.dill_meaning.specs.Views.{ScriptView, main_of}
use Rattle.dill_script.specs.declared.script.Program.{Program}
use Rattle.dill_script.specs.Reading.{script_with}
use Rattle.relay_body.specs.Running.{running}
use Rattle.dill_calls.specs.CallTable.{is_built}

-- A run after so many steps. Its state is steady. Whoever waits for a bundle to be empty waits for somebody who lives in it. Whoever waits in `hclose` waits for a bundle that is closing, in which somebody goes on; it closes within its debt. The turns after a stop are at most the debt of the root at that stop. Where the next step closes the open root, the run ends within that debt.
pub record RunsWell (traced : Bool) (most : ℕ) (begun : Playing (State ScriptView)) (n : ℕ) : Type 0 where
  pub steady : IsSteady running (play (machine_of running) traced most n begun).config.state
  pub waits : WaitsForSomebody (play (machine_of running) traced most n begun).config.state.world
  pub closes : ClosesWell running (play (machine_of running) traced most n begun).config.state
  pub bounded : ((play (machine_of running) traced most n begun).config.tally.closing ≡ 0) ⊎ StopsWithin running traced most begun (play (machine_of running) traced most n begun).config.tally.closing
  pub ends : StopsAt running traced most begun n → EndsWell running traced most (stepped running traced most begun n)

-- So it is of each script that is read from a text, however far its run goes and whatever comes from outside.
abbrev pub ScriptsEnd : Type 0
ScriptsEnd = (text : List ℕ) (script : List Program) → script_with is_built text ≡ Ok script
    → (random keys : Stream) (traced : Bool) (most : ℕ) (replies : List KernelReply) (lacks : List Lack) (halt : Option ℕ) (n : ℕ)
    → RunsWell traced most (opening (machine_of running) traced most (opening_state (main_of script) random) keys replies lacks halt) n
