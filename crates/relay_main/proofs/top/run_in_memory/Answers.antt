use Rattle.std.proofs.Common.{refl, sym, subst}
use Rattle.dill_base.specs.declared.status.Status.{Status}
use Rattle.dill_loop.specs.Steps.{LoopStep, Looped}
use Rattle.relay_main.specs.Doing.{begun}
use Rattle.relay_main.specs.Outcome.{Shows}
use Rattle.relay_main.proofs.top.run_in_memory.Goals as goal

pub returns-in_default : goal.returns-in_default
returns-in_default g c = record {
  net = begun c.args.cut;
  shows = subst (λ (s : Status). Shows (λ old entry new. LoopStep old.net entry new.net) (λ t. t.faults) g.W.Sink.told g.W.Sink.faults (g.F.Shelf.files c.args.shelf.now) c.args.name.now c.args.traced c.args.turns (g.F.Shelf.faults c.args.shelf.now) (g.F.Shelf.faults c.args.shelf.now) (begun c.args.cut) (begun c.args.cut) (g.R.Rng.stream c.args.keys.now) (g.R.Rng.stream c.args.keys.now) c.args.out.now c.args.out.now c.args.err.now c.say_want.new.err s) (sym c.say_want.ensures.status)
      (record { kernel_same = refl; keys_same = refl; out_same = refl }, refl, c.say_want.ensures.says);
}

pub returns : goal.returns
returns g c = record {
  net = c.run_over.new.kernel;
  shows = subst (λ (k : Looped). Shows (λ old entry new. LoopStep old.net entry new.net) (λ t. t.faults) g.W.Sink.told g.W.Sink.faults (g.F.Shelf.files c.args.shelf.now) c.args.name.now c.args.traced c.args.turns (g.F.Shelf.faults c.args.shelf.now) (g.F.Shelf.faults c.run_over.new.shelf) k c.run_over.new.kernel (g.R.Rng.stream c.args.keys.now) (g.R.Rng.stream c.run_over.new.keys) c.args.out.now c.run_over.new.out c.args.err.now c.run_over.new.err c.run_over.result) c.in-Ok.ensures c.run_over.ensures;
}
