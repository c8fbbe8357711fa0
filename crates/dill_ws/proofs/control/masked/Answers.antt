use Rattle.std.proofs.Common.{arith}
use Rattle.dill_ws.proofs.Controls.{masked_control}
use Rattle.dill_ws.proofs.control.masked.Goals as goal

pub returns-clause-bytes : goal.returns-clause-bytes
returns-clause-bytes c =
    masked_control c.args.key c.put_masked.new.place _ c.args.payload.now c.args.opcode c.requires.short
    (omega arith) (omega arith) c.put_masked.ensures
