use Rattle.dill_loop.specs.Store.{network_of}
use Rattle.dill_loop.specs.Calls as calls
use Rattle.dill_loop.proofs.Kept.{stays_after, wait_keeps}
use Rattle.dill_loop.proofs.kernel.LoopKernelKernel.wait.Goals as goal

pub invariant_of-self : goal.invariant_of-self
invariant_of-self c =
    let old = network_of c.self.inside.net in
    stays_after c.self.inside.net c.wait-result.new.self (calls.told c.args.limit old).after c.self.invariant.0 (wait_keeps c.args.limit old c.self.invariant.1) c.wait-result.ensures.network c.wait-result.ensures.capacity
