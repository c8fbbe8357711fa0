use Rattle.std.proofs.Common.{◌≡◌, drop}
use Rattle.dill_base.specs.Shelves.{bytes_under}
use Rattle.dill_base.proofs.mem_shelf.place_of.Given as goal

abbrev pub invariant-loop-i : goal.invariant-loop-i
invariant-loop-i l = bytes_under l.held l.name ≡ bytes_under (drop l.i l.held) l.name
