use Rattle.std.proofs.Common.{subst}
use Rattle.dill_base.specs.declared.status.Status.TheVariants.{Well}
use Rattle.dill_drive.specs.declared.tally.Tally.{Tally}
use Rattle.dill_drive.specs.Asks.{Counted}
use Rattle.dill_drive.specs.Progress.{Runs}
use Rattle.dill_drive.specs.Story.{here, Round, Over, no_tally}
use Rattle.dill_drive.specs.Tells.{NamesErrno}
use Rattle.dill_drive.proofs.Playing.{concludes}
use Rattle.dill_drive.proofs.Running.{runs_later}
use Rattle.dill_drive.proofs.rounds.drive.Goals as goal

pub returns-clause-runs : goal.returns-clause-runs
returns-clause-runs g c =
    let m = g.M.Stepper.means in
    let step = Counted g.K.Kernel.step g.K.Kernel.faults in
    let p = c.whole-status.new.self in
    let keys = g.R.Rng.stream c.args.keys.now in
    let keys' = g.R.Rng.stream c.whole-status.new.keys in
    let told = g.W.Sink.told c.args.out.now in
    let now = g.W.Sink.told c.whole-status.new.out in
    let names : NamesErrno (m.ended p.core) c.end_of.result = rw c.ended.ensures at c.end_of.ensures.errno in
    let runs : Runs m step c.args.kernel.now c.whole-status.new.kernel c.args.traced c.args.turns (here c.args.first Round Well no_tally keys) (here p.core Over c.whole-status.result p.tally keys') told now =
    subst (λ (t : Tally). Runs m step c.args.kernel.now c.whole-status.new.kernel c.args.traced c.args.turns (here c.args.first Round Well t keys) (here p.core Over c.whole-status.result p.tally keys') told now) c.new.ensures c.whole-status.ensures.runs in
    concludes m step c.args.traced c.args.turns _ _ c.args.first p.core c.end_of.result c.whole-status.result p.tally keys keys' runs.entries told now c.end_of.ensures.status names runs.went runs.leads

pub returns-clause-kernel_cause : goal.returns-clause-kernel_cause
returns-clause-kernel_cause g c = runs_later g.M.Stepper.means g.K.Kernel.step g.K.Kernel.faults _ _ c.args.traced c.args.turns _ _ _ _ c.whole-status.ensures.runs
