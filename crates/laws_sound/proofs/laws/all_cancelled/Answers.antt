use Rattle.laws_sound.proofs.Sound.{all_cancelled}
use Rattle.laws_sound.proofs.laws.all_cancelled.Goals as goal

pub returns : goal.returns
returns g c = all_cancelled g.row.B.Denot
