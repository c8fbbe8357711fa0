use Rattle.link_bench.specs.Ready.{IsSet}
use Rattle.link_bench.proofs.stacks.Taker.drain.Given as goal

abbrev pub invariant-loop : goal.invariant-loop
invariant-loop l = IsSet l.self
