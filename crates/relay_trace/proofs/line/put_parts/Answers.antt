use Rattle.std.proofs.Common.{◌+◌, arith}
use Rattle.relay_trace.specs.Lines.{hex_of}
use Rattle.relay_trace.proofs.Flowing.{on_err, on_ok_map, on_err_map, flows_parts, proper_first, proper_second, proper_third, proper_fourth}
use Rattle.relay_trace.proofs.line.put_parts.Goals as goal

pub returns-in_err-put_all-clause-err : goal.returns-in_err-put_all-clause-err
returns-in_err-put_all-clause-err g c =
    let told = g.W.Sink.told in
    let a = c.args in
    on_err c.from_residual.result (proper_first (told a.out.now) (told c.put_all.new.out) a.piece.now a.head.now (hex_of a.first.now) a.middle.now (hex_of a.second.now) c.in_err-put_all.ensures.err)

pub returns-in_err-put_hex-clause-err : goal.returns-in_err-put_hex-clause-err
returns-in_err-put_hex-clause-err g c =
    let told = g.W.Sink.told in
    let a = c.args in
    on_err c.from_residual-in_err-put_hex.result (proper_second (told a.out.now) (told c.put_all.new.out) (told c.put_hex.new.out) a.piece.now a.head.now (hex_of a.first.now) a.middle.now (hex_of a.second.now) c.put_all.new.self c.in_ok-put_all.ensures.ok c.in_err-put_hex.ensures.err)

pub returns-in_err-put_all-2-clause-err : goal.returns-in_err-put_all-2-clause-err
returns-in_err-put_all-2-clause-err g c =
    let told = g.W.Sink.told in
    let a = c.args in
    on_err c.from_residual-in_err-put_all-2.result (proper_third (told a.out.now) (told c.put_all.new.out) (told c.put_hex.new.out) (told c.put_all-2.new.out) a.piece.now a.head.now (hex_of a.first.now) a.middle.now (hex_of a.second.now) c.put_all.new.self c.put_hex.new.self c.in_ok-put_all.ensures.ok c.in_ok-put_hex.ensures.ok c.in_err-put_all-2.ensures.err)

pub returns-clause-ok : goal.returns-clause-ok
returns-clause-ok g c =
    let told = g.W.Sink.told in
    let a = c.args in
    on_ok_map c.put_hex-2.result (λ last. flows_parts (told a.out.now) (told c.put_all.new.out) (told c.put_hex.new.out) (told c.put_all-2.new.out) (told c.put_hex-2.new.out) a.piece.now a.head.now (hex_of a.first.now) a.middle.now (hex_of a.second.now) c.put_all.new.self c.put_hex.new.self c.put_all-2.new.self c.put_hex-2.new.self c.in_ok-put_all.ensures.ok c.in_ok-put_hex.ensures.ok c.in_ok-put_all-2.ensures.ok last) c.put_hex-2.ensures.ok

pub returns-clause-err : goal.returns-clause-err
returns-clause-err g c =
    let told = g.W.Sink.told in
    let a = c.args in
    on_err_map c.put_hex-2.result (λ last. proper_fourth (told a.out.now) (told c.put_all.new.out) (told c.put_hex.new.out) (told c.put_all-2.new.out) (told c.put_hex-2.new.out) a.piece.now a.head.now (hex_of a.first.now) a.middle.now (hex_of a.second.now) c.put_all.new.self c.put_hex.new.self c.put_all-2.new.self c.in_ok-put_all.ensures.ok c.in_ok-put_hex.ensures.ok c.in_ok-put_all-2.ensures.ok last) c.put_hex-2.ensures.err

pub returns-clause-pieces : goal.returns-clause-pieces
returns-clause-pieces g c = on_ok_map c.put_hex-2.result (λ last. (
  c.in_ok-put_all.ensures.pieces.0 + c.in_ok-put_hex.ensures.pieces.0 + c.in_ok-put_all-2.ensures.pieces.0 + last.0,
  omega (arith, c.in_ok-put_all.ensures.pieces.1, c.in_ok-put_hex.ensures.pieces.1, c.in_ok-put_all-2.ensures.pieces.1, last.1),
)) c.put_hex-2.ensures.pieces
