use Rattle.laws_sound.proofs.Apart.{settles_apart}
use Rattle.laws_sound.proofs.laws.settles_apart.Goals as goal

pub returns : goal.returns
returns g c = settles_apart g.row.B.Denot
