use Rattle.relay_trace.proofs.Flowing.{on_err, on_ok_map, on_err_map, proper_more, proper_behind, appends_trans}
use Rattle.relay_trace.proofs.turn.write_traced.Goals as goal

pub returns-in_err-write_answer-clause-err : goal.returns-in_err-write_answer-clause-err
returns-in_err-write_answer-clause-err g c = on_err c.from_residual.result (proper_more _ _ _ _ c.in_err-write_answer.ensures.err)

pub returns-clause-ok : goal.returns-clause-ok
returns-clause-ok g c =
    on_ok_map c.write_end.result (λ out. appends_trans (g.W.Sink.told c.args.out.now) (g.W.Sink.told c.write_answer.new.out) (g.W.Sink.told c.write_end.new.out) _ _ c.in_ok-write_answer.ensures.ok out) c.write_end.ensures.ok

pub returns-clause-err : goal.returns-clause-err
returns-clause-err g c =
    on_err_map c.write_end.result (λ part. proper_behind (g.W.Sink.told c.args.out.now) (g.W.Sink.told c.write_answer.new.out) (g.W.Sink.told c.write_end.new.out) _ _ c.in_ok-write_answer.ensures.ok part) c.write_end.ensures.err
