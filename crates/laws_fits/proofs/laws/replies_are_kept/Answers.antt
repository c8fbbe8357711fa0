use Rattle.laws_fits.proofs.Keepers.{replies_are_kept}
use Rattle.laws_fits.proofs.laws.replies_are_kept.Goals as goal

pub returns : goal.returns
returns g c = replies_are_kept c.links_are_kept.ensures
