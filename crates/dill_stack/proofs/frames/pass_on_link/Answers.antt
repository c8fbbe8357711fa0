use Rattle.dill_stack.proofs.Passers.{link_passes}
use Rattle.dill_stack.proofs.frames.pass_on_link.Goals as goal

pub returns-in-Ws : goal.returns-in-Ws
returns-in-Ws c = rw c.in-Ws.is (link_passes c.args.limit c.in-Ws.framed c.pass_front.new.framed c.args.unread.now c.pass_front.new.unread c.pass_front.result c.pass_front.ensures)
