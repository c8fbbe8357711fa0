use Rattle.std.proofs.Common.{◌∙◌, arith}
use Rattle.relay_trace.specs.Lines.{note_line}
use Rattle.dill_drive.proofs.Flowing.{on_err, lines_cut, lines_more}
use Rattle.dill_drive.proofs.lines.write_each.Goals as goal

pub returns-in_err-write_note-clause-err : goal.returns-in_err-write_note-clause-err
returns-in_err-write_note-clause-err g c = on_err c.from_residual.result (lines_cut note_line _ _ _ c.args.notes.now _ _ (omega arith) c.loop-note.invariant.out c.in_err-write_note.ensures.err)

pub loop-note-preserved : goal.loop-note-preserved
loop-note-preserved g c = record {
  out = lines_more note_line _ _ _ c.args.notes.now _ _ (omega arith) c.loop-note.invariant.out c.in_ok-write_note.ensures.ok;
  count = c.in_ok-write_note.ensures.cause.kept ∙ c.loop-note.invariant.count;
}
