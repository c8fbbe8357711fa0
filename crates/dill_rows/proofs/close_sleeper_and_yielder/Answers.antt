use Rattle.std.proofs.Common.{refl}
use Rattle.std.specs.Fmt.{digits}
use Rattle.dill_rows.proofs.close_sleeper_and_yielder.Goals as goal

pub returns : goal.returns
unfolding digits
returns c = record { run = refl; debts = refl }
