use Rattle.std.proofs.Common.{◌≡◌, ◌+◌, ◌++◌, length, take}
use Rattle.relay_trace.specs.Flows.{Flows, InPieces}
use Rattle.relay_trace.proofs.piece.Piece.put_all.Given as goal

abbrev pub invariant-loop-byte : goal.invariant-loop-byte
invariant-loop-byte g l = record {
  flows : Flows (g.W.Sink.told l.fn.out) (g.W.Sink.told l.out) (l.fn.self ++ take l.byte-index l.bytes) l.self;
  pieces : InPieces (length l.fn.self + l.byte-index) (length l.self);
  count : g.W.Sink.faults l.out ≡ g.W.Sink.faults l.fn.out;
}
