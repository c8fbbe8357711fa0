use Rattle.laws_looks.proofs.Linking.{steps_count_links}
use Rattle.laws_looks.proofs.laws.steps_count_links.Goals as goal

pub returns : goal.returns
returns g c = steps_count_links g.B.Body.means g.met.B.Body.lawful
