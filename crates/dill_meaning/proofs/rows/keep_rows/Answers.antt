use Rattle.std.proofs.Common.{refl}
use Rattle.std.specs.Fmt.{digits}
use Rattle.dill_meaning.proofs.rows.keep_rows.Goals as goal

pub returns : goal.returns
unfolding digits
returns c = record { joined = refl; refused = refl; words_said = refl }
