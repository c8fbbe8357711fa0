use Rattle.std.proofs.Common.{◌++◌}
use Rattle.relay_trace.specs.Flows.{Flows, AppendsProper}
use Rattle.relay_trace.specs.Lines.{hex_of}
use Rattle.relay_trace.proofs.Flowing.{on_err, on_ok_map, on_err_map, proper_more, proper_after, appends_last}
use Rattle.relay_trace.proofs.line.write_hex_line.Goals as goal

pub returns-in_err-put_parts-clause-err : goal.returns-in_err-put_parts-clause-err
returns-in_err-put_parts-clause-err g c =
    let part : AppendsProper (g.W.Sink.told c.args.out.now) (g.W.Sink.told c.put_parts.new.out) (c.args.head.now ++ hex_of c.args.first.now ++ c.args.middle.now ++ hex_of c.args.second.now) = rw c.new-piece.ensures at c.in_err-put_parts.ensures.err in
    on_err c.from_residual.result (proper_more _ _ _ _ part)

pub returns-clause-ok : goal.returns-clause-ok
returns-clause-ok g c =
    let gone : Flows (g.W.Sink.told c.args.out.now) (g.W.Sink.told c.put_parts.new.out) (c.args.head.now ++ hex_of c.args.first.now ++ c.args.middle.now ++ hex_of c.args.second.now) c.put_parts.new.piece = rw c.new-piece.ensures at c.in_ok-put_parts.ensures.ok in
    on_ok_map c.end_line.result (λ out. appends_last _ _ _ _ _ _ gone out) c.end_line.ensures.ok

pub returns-clause-err : goal.returns-clause-err
returns-clause-err g c =
    let gone : Flows (g.W.Sink.told c.args.out.now) (g.W.Sink.told c.put_parts.new.out) (c.args.head.now ++ hex_of c.args.first.now ++ c.args.middle.now ++ hex_of c.args.second.now) c.put_parts.new.piece = rw c.new-piece.ensures at c.in_ok-put_parts.ensures.ok in
    on_err_map c.end_line.result (λ part. proper_after _ _ _ _ _ _ gone part) c.end_line.ensures.err
