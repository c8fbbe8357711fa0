use Rattle.std.proofs.Common.{refl}
use Rattle.std.specs.Fmt.{digits}
use Rattle.dill_meaning.proofs.rows.start_rows.Goals as goal

pub returns : goal.returns
unfolding digits
returns c = record { starts = refl; started = refl; nothing_to_do = refl; nothing_left = refl }
