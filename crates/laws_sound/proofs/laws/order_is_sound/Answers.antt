use Rattle.laws_sound.proofs.Sound.{order_is_sound}
use Rattle.laws_sound.proofs.laws.order_is_sound.Goals as goal

pub returns : goal.returns
returns g c = order_is_sound g.row.B.Denot
