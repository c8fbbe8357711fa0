use Rattle.dill_loop.specs.Store.{network_of}
use Rattle.dill_loop.specs.Calls as calls
use Rattle.dill_loop.proofs.Kept.{stays_after, shut_keeps}
use Rattle.dill_loop.proofs.kernel.LoopKernelKernel.shut.Goals as goal

pub invariant_of-self : goal.invariant_of-self
invariant_of-self c =
    let old = network_of c.self.inside.net in
    stays_after c.self.inside.net c.shut-result.new.self (calls.shut c.args.link old).after c.self.invariant.0 (shut_keeps c.args.link old c.self.invariant.1) c.shut-result.ensures.network c.shut-result.ensures.capacity
