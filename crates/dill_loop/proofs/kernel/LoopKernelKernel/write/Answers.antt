use Rattle.dill_loop.specs.Store.{network_of}
use Rattle.dill_loop.specs.Calls as calls
use Rattle.dill_loop.proofs.Kept.{stays_after, write_keeps}
use Rattle.dill_loop.proofs.kernel.LoopKernelKernel.write.Goals as goal

pub invariant_of-self : goal.invariant_of-self
invariant_of-self c =
    let old = network_of c.self.inside.net in
    stays_after c.self.inside.net c.write-result.new.self (calls.written c.args.link c.args.bytes.now old).after c.self.invariant.0 (write_keeps c.args.link c.args.bytes.now old c.self.invariant.1) c.write-result.ensures.network c.write-result.ensures.capacity
