use Rattle.std.proofs.Common.{◌≡◌, true}
use Rattle.dill_base.specs.declared.status.Status.TheVariants.{Stuck}
use Rattle.dill_drive.specs.Asks.{Counted}
use Rattle.dill_drive.specs.Progress.{is_wait}
use Rattle.dill_drive.proofs.Running.{runs_trans, runs_then, runs_later, rose_later}
use Rattle.dill_drive.proofs.Statuses.{run_ends, run_faulted, of_stop, cause_then, sink_stays, sink_final}
use Rattle.dill_drive.proofs.progress.Progress.whole.Goals as goal

pub returns : goal.returns
returns g c =
    let m = g.M.Stepper.means in
    let e = c.wind_up-last.new.self in
    let stop = c.rounds-stop.result in
    let last = c.wind_up-last.result in
    let now = c.finish.result in
    let outcome = m.ended e.core in
    let keys' = g.R.Rng.stream c.wind_up-last.new.keys in
    let way = c.rounds-stop.ensures.stop in
    let is = c.wind_up-last.ensures.status in
    let ends = c.finish.ensures.status in
    let later = runs_later m g.K.Kernel.step g.K.Kernel.faults _ _ c.args.traced c.args.most _ _ _ _ (c.wind_up-last.ensures.runs c.args.most) in
    record {
      end = run_ends stop last now outcome way is ends;
      fault = λ f. run_faulted stop last now outcome way is ends f;
      stuck = λ f. c.rounds-stop.ensures.stuck (of_stop (λ s. s ≡ Stuck) (λ x. cc) (λ x. cc) (λ x. cc) stop last now outcome is ends f);
      runs = runs_then m (Counted g.K.Kernel.step g.K.Kernel.faults) c.args.traced c.args.most _ _ _ _ _ _ _ _ (runs_trans m (Counted g.K.Kernel.step g.K.Kernel.faults) c.args.traced c.args.most _ _ _ _ _ _ _ _ _ c.rounds-stop.ensures.runs (c.wind_up-last.ensures.runs c.args.most)) (c.finish.ensures.leads c.args.traced c.args.most keys');
      cause = cause_then last now _ _ _ (λ failed. sink_final last now outcome ends failed) (cause_then stop last _ _ _ (λ failed. sink_stays stop last is failed) c.rounds-stop.ensures.cause c.wind_up-last.ensures.cause) c.finish.ensures.cause;
      wait = λ failed. rose_later _ _ _ (c.rounds-stop.ensures.wait (of_stop (λ s. is_wait s ≡ true) (λ x. cc) (λ x. cc) (λ x. cc) stop last now outcome is ends failed)) later;
    }
