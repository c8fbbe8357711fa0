use Rattle.dill_stack.proofs.Passers.{Reaches}
use Rattle.dill_stack.proofs.stack.Stack.pass_all.Given as goal

abbrev pub invariant-loop-frame : goal.invariant-loop-frame
invariant-loop-frame g l = Reaches l.limit l.most l._frame l.fn.self l.self (g.R.Rng.stream l.fn.keys) (g.R.Rng.stream l.keys)
