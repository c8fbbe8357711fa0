use Rattle.std.proofs.Common.{refl}
use Rattle.std.specs.Fmt.{digits}
use Rattle.dill_meaning.proofs.rows.channel_rows.Goals as goal

pub returns : goal.returns
unfolding digits
returns c = record { unequal = refl; receiver = refl; chooses = refl }
