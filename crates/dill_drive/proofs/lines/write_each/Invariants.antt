use Rattle.std.proofs.Common.{◌≡◌, take, flat_map}
use Rattle.std.specs.Io.KnownBytes.{Appends}
use Rattle.relay_trace.specs.Lines.{note_line}
use Rattle.dill_drive.proofs.lines.write_each.Given as goal

abbrev pub invariant-loop-note : goal.invariant-loop-note
invariant-loop-note g l = record {
  out : Appends (g.W.Sink.told l.fn.out) (g.W.Sink.told l.out) (flat_map note_line (take l.note-index l.notes));
  count : g.W.Sink.faults l.out ≡ g.W.Sink.faults l.fn.out;
}
