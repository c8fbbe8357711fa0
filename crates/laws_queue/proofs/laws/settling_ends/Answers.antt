use Rattle.laws_queue.proofs.Settling.{settles_all}
use Rattle.laws_queue.proofs.laws.settling_ends.Goals as goal

pub returns : goal.returns
returns g c = settles_all g.row.B.Denot
