use Rattle.std.proofs.Common.{length}
use Rattle.dill_loop.specs.Store.{network_of}
use Rattle.dill_loop.specs.Calls as calls
use Rattle.dill_loop.proofs.Kept.{stays_after, read_keeps}
use Rattle.dill_loop.proofs.kernel.LoopKernelKernel.read.Goals as goal

pub invariant_of-self : goal.invariant_of-self
invariant_of-self c =
    let old = network_of c.self.inside.net in
    stays_after c.self.inside.net c.read-result.new.self (calls.read c.args.link (length c.args.buf.now) old).after c.self.invariant.0 (read_keeps c.args.link (length c.args.buf.now) old c.self.invariant.1) c.read-result.ensures.network c.read-result.ensures.capacity
