use Rattle.laws_queue.proofs.Following.{follows_states}
use Rattle.laws_queue.proofs.laws.follows_states.Goals as goal

pub returns : goal.returns
returns g c = follows_states g.B.Body.means g.met.B.Body.lawful
