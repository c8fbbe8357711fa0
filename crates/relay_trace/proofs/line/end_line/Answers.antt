use Rattle.relay_trace.proofs.Flowing.{on_err_map, proper_last, proper_of_part}
use Rattle.relay_trace.proofs.line.end_line.Goals as goal

pub returns-clause-err : goal.returns-clause-err
returns-clause-err g c = on_err_map c.flush.result (λ part. proper_last _ _ _ _ _ c.in_ok-put.ensures.ok (proper_of_part _ _ _ c.in_ok-put.ensures.some part)) c.flush.ensures.err
