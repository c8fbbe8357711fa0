use Rattle.laws_sound.proofs.Numbering.{gives_numbers_once}
use Rattle.laws_sound.proofs.laws.numbers_once.Goals as goal

pub returns : goal.returns
returns g c = gives_numbers_once g.B.Body.means g.met.B.Body.lawful
