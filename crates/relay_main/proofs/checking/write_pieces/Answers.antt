use Rattle.std.proofs.Common.{◌∙◌}
use Rattle.relay_trace.proofs.Flowing.{on_err}
use Rattle.relay_main.proofs.Pieces.{one_more, part_of}
use Rattle.relay_main.proofs.checking.write_pieces.Goals as goal

pub returns-in_err-write-clause-err : goal.returns-in_err-write-clause-err
returns-in_err-write-clause-err g c = on_err c.from_residual.result (part_of (g.W.Sink.told c.args.out.now) (g.W.Sink.told c.loop-rest.out) (g.W.Sink.told c.write.new.self) c.args.bytes.now c.loop-rest.rest.now c.cut_piece.result.0.now c.cut_piece.result.1.now
    c.cut_piece.ensures.whole c.loop-rest.invariant.out c.cut_piece.ensures.some c.in_err-write.ensures.part)

pub loop-rest-preserved : goal.loop-rest-preserved
loop-rest-preserved g c = record {
  out = one_more (g.W.Sink.told c.args.out.now) (g.W.Sink.told c.loop-rest.out) (g.W.Sink.told c.write.new.self) c.args.bytes.now c.loop-rest.rest.now c.cut_piece.result.0.now c.cut_piece.result.1.now
      c.cut_piece.ensures.whole c.loop-rest.invariant.out c.in_ok-write.ensures.whole;
  kept = c.in_ok-write.ensures.cause.kept ∙ c.loop-rest.invariant.kept;
}

pub loop-rest-smaller : goal.loop-rest-smaller
loop-rest-smaller g c = c.cut_piece.ensures.less
