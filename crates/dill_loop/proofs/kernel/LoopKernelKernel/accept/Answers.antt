use Rattle.dill_loop.specs.Store.{network_of}
use Rattle.dill_loop.specs.Calls as calls
use Rattle.dill_loop.proofs.Kept.{stays_after, accept_keeps}
use Rattle.dill_loop.proofs.kernel.LoopKernelKernel.accept.Goals as goal

pub invariant_of-self : goal.invariant_of-self
invariant_of-self c =
    let old = network_of c.self.inside.net in
    stays_after c.self.inside.net c.accept-result.new.self (calls.accepted c.args.listener c.args.link old).after c.self.invariant.0 (accept_keeps c.args.listener c.args.link old c.self.invariant.1) c.accept-result.ensures.network c.accept-result.ensures.capacity
