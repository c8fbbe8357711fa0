use Rattle.laws_sound.proofs.Stepping.{steps_note_numbers}
use Rattle.laws_sound.proofs.laws.steps_note_numbers.Goals as goal

pub returns : goal.returns
returns g c = steps_note_numbers g.B.Body.means
