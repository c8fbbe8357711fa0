use Rattle.std.proofs.Common.{◌≡◌, length}
use Rattle.relay_trace.specs.Flows.{Flows}
use Rattle.relay_main.proofs.checking.write_pieces.Given as goal

-- all went out but what is left, and no write has failed
abbrev pub invariant-loop-rest : goal.invariant-loop-rest
invariant-loop-rest g l = record {
  out : Flows (g.W.Sink.told l.fn.out) (g.W.Sink.told l.out) l.fn.bytes l.rest;
  kept : g.W.Sink.faults l.out ≡ g.W.Sink.faults l.fn.out;
}

abbrev pub decreases-loop-rest : goal.decreases-loop-rest
decreases-loop-rest g l = length l.rest
