use Rattle.dill_stack.proofs.Sinkings.{Reaches}
use Rattle.dill_stack.proofs.stack.Stack.drop_all.Given as goal

abbrev pub invariant-loop-item : goal.invariant-loop-item
invariant-loop-item g l = Reaches l.most l._item l.fn.self l.self (g.R.Rng.stream l.fn.keys) (g.R.Rng.stream l.keys)
