use Rattle.std.proofs.Common.{refl}
use Rattle.std.specs.Fmt.{digits}
use Rattle.dill_meaning.proofs.rows.handle_rows.Goals as goal

pub returns : goal.returns
unfolding digits
returns c = record { renumbered = refl; sleeps = refl; sleeper = refl; leaf = refl; middle = refl }
