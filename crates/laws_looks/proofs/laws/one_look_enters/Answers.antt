use Rattle.laws_looks.proofs.Takes.{one_look_enters}
use Rattle.laws_looks.proofs.laws.one_look_enters.Goals as goal

pub returns : goal.returns
returns g c = one_look_enters g.B.Body.means c.again_laws.ensures
