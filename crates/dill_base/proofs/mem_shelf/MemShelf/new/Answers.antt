use Rattle.std.proofs.Common.{arith}
use Rattle.dill_base.proofs.Held.{new_shelf}
use Rattle.dill_base.proofs.mem_shelf.MemShelf.new.Goals as goal

pub returns : goal.returns
returns c = new_shelf c.args.files.items c.args.fails.items c.len-place.result (omega arith)
