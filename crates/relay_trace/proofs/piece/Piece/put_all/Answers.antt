use Rattle.std.proofs.Common.{◌∙◌, ◌+◌, arith}
use Rattle.relay_trace.proofs.Flowing.{on_err, flows_more, proper_of_more}
use Rattle.relay_trace.proofs.piece.Piece.put_all.Goals as goal

pub returns-in_err-put-clause-err : goal.returns-in_err-put-clause-err
returns-in_err-put-clause-err g c =
    on_err c.from_residual.result (proper_of_more _ _ _ _ _ _ c.loop-byte.byte-index 0 (omega arith) c.loop-byte.invariant.flows c.in_err-put.ensures.err)

pub loop-byte-preserved : goal.loop-byte-preserved
loop-byte-preserved g c = record {
  flows = flows_more _ _ _ _ _ _ _ c.loop-byte.byte-index 0 (omega arith) c.loop-byte.invariant.flows c.in_ok-put.ensures.ok;
  pieces = (c.loop-byte.invariant.pieces.0 + c.in_ok-put.ensures.pieces.0, omega (arith, c.loop-byte.invariant.pieces.1, c.in_ok-put.ensures.pieces.1));
  count = c.in_ok-put.ensures.cause.kept ∙ c.loop-byte.invariant.count;
}
