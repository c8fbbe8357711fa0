use Rattle.std.proofs.Common.{◌≡◌, subst}
use Rattle.dill_stack.specs.Rooms.{Queued}
use Rattle.dill_stack.specs.Sending.{gone_on}
use Rattle.dill_stack.proofs.Pongs.{none_gone}
use Rattle.dill_stack.proofs.queue.Queue.rests.Goals as goal

pub returns : goal.returns
returns c = subst (λ (q : Queued). gone_on 0 q.items ≡ q.items) c.self.view_is (none_gone c.self.inside.begun c.self.inside.waiting c.self.inside.bytes.items c.self.inside.pending c.self.invariant.0 c.self.invariant.2 c.self.invariant.3)
