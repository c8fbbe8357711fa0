use Rattle.std.proofs.Common.{refl}
use Rattle.std.specs.Fmt.{digits}
use Rattle.dill_rows.proofs.bundle_closed_whole.Goals as goal

pub returns : goal.returns
unfolding digits
returns c = record { run = refl; debts = refl }
