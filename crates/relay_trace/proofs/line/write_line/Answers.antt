use Rattle.relay_trace.specs.Flows.{Flows, AppendsProper}
use Rattle.relay_trace.proofs.Flowing.{on_err, on_err_map, proper_more, proper_after}
use Rattle.relay_trace.proofs.line.write_line.Goals as goal

pub returns-in_err-put_all-clause-err : goal.returns-in_err-put_all-clause-err
returns-in_err-put_all-clause-err g c =
    let part : AppendsProper (g.W.Sink.told c.args.out.now) (g.W.Sink.told c.put_all.new.out) c.args.line.now = rw c.new-piece.ensures at c.in_err-put_all.ensures.err in
    on_err c.from_residual.result (proper_more _ _ _ _ part)

pub returns-clause-err : goal.returns-clause-err
returns-clause-err g c =
    let gone : Flows (g.W.Sink.told c.args.out.now) (g.W.Sink.told c.put_all.new.out) c.args.line.now c.put_all.new.self = rw c.new-piece.ensures at c.in_ok-put_all.ensures.ok in
    on_err_map c.end_line.result (λ part. proper_after _ _ _ _ _ _ gone part) c.end_line.ensures.err
