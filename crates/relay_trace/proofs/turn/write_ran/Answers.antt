use Rattle.std.proofs.Common.{◌++◌}
use Rattle.relay_trace.specs.Lines.{answer_line, end_line, text_line}
use Rattle.relay_trace.proofs.Flowing.{on_err, on_ok_map, on_err_map, proper_more, proper_behind, appends_trans}
use Rattle.relay_trace.proofs.turn.write_ran.Goals as goal

pub returns-in_err-write_traced-clause-err : goal.returns-in_err-write_traced-clause-err
returns-in_err-write_traced-clause-err g c =
    let r = c.args.ran.now in
    rw c.if-traced.true (on_err c.from_residual.result (proper_more (g.W.Sink.told c.args.out.now) (g.W.Sink.told c.write_traced.new.out) (answer_line r.who r.word r.given ++ end_line r.who r.end) (text_line r.text) c.in_err-write_traced.ensures.err))

pub returns-then-traced-clause-ok : goal.returns-then-traced-clause-ok
returns-then-traced-clause-ok g c =
    let r = c.args.ran.now in
    rw c.if-traced.true (on_ok_map c.write_text.result (λ out. appends_trans (g.W.Sink.told c.args.out.now) (g.W.Sink.told c.write_traced.new.out) (g.W.Sink.told c.write_text.new.out) (answer_line r.who r.word r.given ++ end_line r.who r.end) (text_line r.text) c.in_ok-write_traced.ensures.ok out) c.write_text.ensures.ok)

pub returns-then-traced-clause-err : goal.returns-then-traced-clause-err
returns-then-traced-clause-err g c =
    let r = c.args.ran.now in
    rw c.if-traced.true (on_err_map c.write_text.result (λ part. proper_behind (g.W.Sink.told c.args.out.now) (g.W.Sink.told c.write_traced.new.out) (g.W.Sink.told c.write_text.new.out) (answer_line r.who r.word r.given ++ end_line r.who r.end) (text_line r.text) c.in_ok-write_traced.ensures.ok part) c.write_text.ensures.err)
