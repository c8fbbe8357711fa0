use Rattle.dill_loop.specs.Store.{network_of}
use Rattle.dill_loop.specs.Calls as calls
use Rattle.dill_loop.proofs.Kept.{made_after, listen_keeps}
use Rattle.dill_loop.proofs.kernel.LoopKernelKernel.listen.Goals as goal

pub invariant_of-self : goal.invariant_of-self
invariant_of-self c =
    let old = network_of c.self.inside.net in
    made_after 1 c.self.inside.net c.listen-result.new.self (calls.listened c.args.link c.args.at c.args.backlog old).after c.self.invariant.0 c.self.invariant.1 (listen_keeps c.args.link c.args.at c.args.backlog old c.self.invariant.1) c.listen-result.ensures.made c.listen-result.ensures.room
