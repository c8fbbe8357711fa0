use Rattle.std.proofs.Common.{refl, ap, subst}
use Rattle.dill_drive.specs.declared.run_end.RunEnd.TheVariants as ends
use Rattle.dill_drive.specs.Asks.{Counted}
use Rattle.dill_drive.specs.ByRules.{machine_of}
use Rattle.dill_drive.specs.Tells.{Concludes}
use Rattle.dill_rules.specs.State.{opening_state}
use Rattle.dill_meaning.specs.Views.{ScriptView}
use Rattle.relay_body.specs.Running.{running}
use Rattle.relay_main.proofs.Shown.{unmoved}
use Rattle.relay_main.proofs.running.run_script.Goals as goal

pub returns-in_default : goal.returns-in_default
returns-in_default g c = record {
  end = ends.NoMemory;
  refused = λ e. record { kernel_same = refl; keys_same = refl; out_same = refl };
  runs = λ e. cc;
  cause = unmoved (g.W.Sink.faults c.args.out.now);
  wait = λ e. cc;
  status = c.say_want.ensures.status;
  says = c.say_want.ensures.says;
}

pub returns : goal.returns
returns g c = record {
  end = c.run-end.result;
  refused = λ e. let u = c.run-end.ensures.refused e in record { kernel_same = u.asks; keys_same = ap g.R.Rng.stream u.draws; out_same = u.writes };
  runs = λ e. subst (λ (v : ScriptView). Concludes (machine_of running) (Counted g.K.Kernel.step g.K.Kernel.faults) c.args.kernel.now c.run-end.new.kernel c.args.traced c.args.turns (opening_state v (g.R.Rng.stream c.args.keys.now)) (g.R.Rng.stream c.args.keys.now) (g.R.Rng.stream c.run-end.new.keys) (g.W.Sink.told c.args.out.now) (g.W.Sink.told c.run-end.new.out) c.run-end.result) c.in-Ok.ensures.body (c.run-end.ensures.runs e);
  cause = c.run-end.ensures.cause;
  wait = c.run-end.ensures.wait;
  status = c.tell_end.ensures.status;
  says = c.tell_end.ensures.says;
}
