use Rattle.dill_rules.specs.State.{opening_state}
use Rattle.dill_drive.specs.Asks.{Counted}
use Rattle.dill_drive.specs.ByRules.{machine_of}
use Rattle.dill_drive.proofs.Alike.{concludes_alike}
use Rattle.dill_core.specs.CoreMachine.{core_machine}
use Rattle.dill_core.proofs.Alike.{Stands, alike, stands_first}
use Rattle.dill_core.proofs.running.run.Goals as goal

pub returns-in-Ok-clause-runs : goal.returns-in-Ok-clause-runs
returns-in-Ok-clause-runs g c = λ begun.
    let p = g.B.Body.means in
    let keys = g.R.Rng.stream c.args.keys.now in
    let keeps = c.steps_keep_well.ensures in
    let stays = c.steps_keep_linkless.ensures in
    let follows = c.follows_linkless.ensures in
    let core = c.in-Ok.core in
    let stands = stands_first p keeps stays follows core c.args.first keys c.requires.begins c.in-Ok.ensures in
    concludes_alike (core_machine p) (machine_of p) (Counted g.K.Kernel.step g.K.Kernel.faults) c.args.traced c.args.turns (Stands p) (alike p keeps stays follows) _ _ core (opening_state c.args.first keys) keys _ _ _ c.drive.result stands c.drive.ensures.runs
