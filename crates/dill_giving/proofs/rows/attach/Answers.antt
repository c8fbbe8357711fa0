use Rattle.dill_sockets.specs.Entering.{attach_due}
use Rattle.dill_giving.proofs.Asking.{puts}
use Rattle.dill_giving.proofs.rows.attach.Goals as goal

pub returns : goal.returns
returns c = λ random. puts (attach_due c.args.call.now random c.args.row.now.stack) c.attach.result c.args.row.now c.attach.new.stack random random (rw c.stack_mut.ensures.stack at (c.attach.ensures random))
