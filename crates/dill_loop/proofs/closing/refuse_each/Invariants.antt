use Rattle.std.proofs.Common.{◌≡◌, ◌++◌, map, take, drop}
use Rattle.dill_loop.specs.Calls.{refused_at}
use Rattle.dill_loop.proofs.closing.refuse_each.Given as goal

abbrev pub invariant-loop-pair : goal.invariant-loop-pair
invariant-loop-pair l = l.pairs ≡ map (refused_at l.listener) (take l.pair-index l.fn.pairs) ++ drop l.pair-index l.fn.pairs
