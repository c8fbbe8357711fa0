use Rattle.std.proofs.Common.{arith}
use Rattle.relay_trace.proofs.Flowing.{on_err, proper_more, proper_of_part}
use Rattle.relay_trace.proofs.piece.Piece.put.Goals as goal

pub returns-in_err-flush-clause-err : goal.returns-in_err-flush-clause-err
returns-in_err-flush-clause-err g c =
    on_err c.from_residual.result (proper_more _ _ _ _ (proper_of_part _ _ _ (omega (arith, c.is_full.ensures.full c.if-is_full.true)) c.in_err-flush.ensures.err))
