use Rattle.std.proofs.Common.{◌≡◌, drop}
use Rattle.dill_world.specs.Releases.{retire_noted, drop_noted, close_noted}
use Rattle.dill_world.proofs.ending.release_noted.Given as goal

abbrev pub invariant-loop-note : goal.invariant-loop-note
invariant-loop-note l = record {
  handles : retire_noted l.handles (drop l.note-index l.notes) ≡ retire_noted l.fn.handles l.notes;
  channels : drop_noted l.handles l.channels.channels (drop l.note-index l.notes) ≡ drop_noted l.fn.handles l.fn.channels.channels l.notes;
  links : close_noted l.handles l.links (drop l.note-index l.notes) ≡ close_noted l.fn.handles l.fn.links l.notes;
}
