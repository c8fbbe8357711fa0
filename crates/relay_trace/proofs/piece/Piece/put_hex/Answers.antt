use Rattle.std.proofs.Common.{◌≡◌, ◌∙◌, ◌+◌, ap, arith, length}
use Rattle.relay_trace.proofs.Flowing.{on_err, flows_more_hex, proper_of_more_hex}
use Rattle.relay_trace.proofs.piece.Piece.put_hex.Goals as goal

pub returns-in_err-put_all-clause-err : goal.returns-in_err-put_all-clause-err
returns-in_err-put_all-clause-err g c =
    on_err c.from_residual.result (proper_of_more_hex _ _ _ _ _ _ _ c.loop-byte.byte-index 0 (omega arith) c.hex_pair.ensures c.loop-byte.invariant.flows c.in_err-put_all.ensures.err)

pub loop-byte-preserved : goal.loop-byte-preserved
loop-byte-preserved g c =
    let two : length c.hex_pair.result ≡ 2 = ap length c.hex_pair.ensures in
    record {
      flows = flows_more_hex _ _ _ _ _ _ _ _ c.loop-byte.byte-index 0 (omega arith) c.hex_pair.ensures c.loop-byte.invariant.flows c.in_ok-put_all.ensures.ok;
      pieces = (c.loop-byte.invariant.pieces.0 + c.in_ok-put_all.ensures.pieces.0, omega (arith, two, c.loop-byte.invariant.pieces.1, c.in_ok-put_all.ensures.pieces.1));
      count = c.in_ok-put_all.ensures.cause.kept ∙ c.loop-byte.invariant.count;
    }
