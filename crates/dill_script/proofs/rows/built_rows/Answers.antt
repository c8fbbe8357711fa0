use Rattle.std.proofs.Common.{refl}
use Rattle.std.specs.Fmt.{digits}
use Rattle.dill_script.proofs.rows.built_rows.Goals as goal

pub returns : goal.returns
unfolding digits
returns c = record { unbuilt = refl; unknown_first = refl; outside = refl }
