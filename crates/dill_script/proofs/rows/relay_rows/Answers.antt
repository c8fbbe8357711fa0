use Rattle.std.proofs.Common.{refl}
use Rattle.std.specs.Fmt.{digits}
use Rattle.dill_script.proofs.rows.relay_rows.Goals as goal

pub returns : goal.returns
unfolding digits
returns c = record { load = refl; relay = refl }
