use Rattle.dill_loop.specs.Store.{network_of}
use Rattle.dill_loop.specs.Calls as calls
use Rattle.dill_loop.proofs.Kept.{stays_after, close_keeps}
use Rattle.dill_loop.proofs.kernel.LoopKernelKernel.close.Goals as goal

pub invariant_of-self : goal.invariant_of-self
invariant_of-self c =
    let old = network_of c.self.inside.net in
    stays_after c.self.inside.net c.close.new.self (calls.closed c.args.link old) c.self.invariant.0 (close_keeps c.args.link old c.self.invariant.1) c.close.ensures.network c.close.ensures.capacity
