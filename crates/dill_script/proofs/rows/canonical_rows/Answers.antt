use Rattle.std.proofs.Common.{refl}
use Rattle.std.specs.Fmt.{digits}
use Rattle.dill_script.proofs.rows.canonical_rows.Goals as goal

pub returns : goal.returns
unfolding digits
returns c = record { cleaned = refl; again = refl }
