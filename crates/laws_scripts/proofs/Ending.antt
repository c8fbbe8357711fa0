-- The laws of runs, of the runs of scripts.
use Rattle.dill_drive.specs.ByRules.{machine_of}
use Rattle.laws_runs.specs.Bound.{RunsAreBounded}
use Rattle.laws_runs.specs.Closes.{RunsCloseWell}
use Rattle.laws_runs.specs.Ends.{RunsEnd}
use Rattle.laws_runs.specs.States.{RunsAreSteady}
use Rattle.laws_runs.specs.Waits.{WaitingIsForSomebody}
use Rattle.dill_drive.specs.Play.{play, opening}
use Rattle.dill_rules.specs.State.{opening_state}
use Rattle.dill_meaning.specs.Views.{main_of}
use Rattle.relay_body.specs.Running.{running}
use Rattle.relay_body.specs.Beginning.{ScriptsBegin}
use Rattle.laws_scripts.specs.Runs.{ScriptsEnd}

pub ends : ScriptsBegin → RunsAreSteady running → RunsAreBounded running → RunsEnd running → WaitingIsForSomebody running → RunsCloseWell running → ScriptsEnd
ends begin steady bounded ended waits closes text script reads random keys traced most replies lacks halt n =
    let b = (begin text script reads).begins in
    let view = main_of script in
    let still = steady view random keys traced most replies lacks halt n b in
    record {
      steady = still;
      waits = waits (play (machine_of running) traced most n (opening (machine_of running) traced most (opening_state view random) keys replies lacks halt)).config.state still;
      closes = closes view random keys traced most replies lacks halt n b;
      bounded = bounded view random keys traced most replies lacks halt n b;
      ends = ended view random keys traced most replies lacks halt n b;
    }
