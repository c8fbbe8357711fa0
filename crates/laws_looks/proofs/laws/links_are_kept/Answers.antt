use Rattle.laws_looks.proofs.Asked.{links_are_kept}
use Rattle.laws_looks.proofs.laws.links_are_kept.Goals as goal

pub returns : goal.returns
returns g c = links_are_kept g.row.B.Denot
