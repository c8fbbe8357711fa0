use Rattle.laws_looks.proofs.Turned.{one_look_turns}
use Rattle.laws_looks.proofs.laws.one_look_turns.Goals as goal

pub returns : goal.returns
returns g c = one_look_turns g.B.Body.means c.again_laws.ensures
