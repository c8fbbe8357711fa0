use Rattle.dill_loop.specs.Store.{network_of}
use Rattle.dill_loop.specs.Calls as calls
use Rattle.dill_loop.proofs.Kept.{made_after, connect_keeps}
use Rattle.dill_loop.proofs.kernel.LoopKernelKernel.connect.Goals as goal

pub invariant_of-self : goal.invariant_of-self
invariant_of-self c =
    let old = network_of c.self.inside.net in
    made_after 2 c.self.inside.net c.connect-result.new.self (calls.connected c.args.link c.args.to old).after c.self.invariant.0 c.self.invariant.1 (connect_keeps c.args.link c.args.to old c.self.invariant.1) c.connect-result.ensures.made c.connect-result.ensures.room
