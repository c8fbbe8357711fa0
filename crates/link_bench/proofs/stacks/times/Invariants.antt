use Rattle.link_bench.specs.Ready.{IsReady}
use Rattle.link_bench.proofs.stacks.times.Given as goal

abbrev pub invariant-loop : goal.invariant-loop
invariant-loop l = IsReady l.to
