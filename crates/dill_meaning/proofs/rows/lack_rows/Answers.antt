use Rattle.std.proofs.Common.{refl}
use Rattle.std.specs.Fmt.{digits}
use Rattle.dill_meaning.proofs.rows.lack_rows.Goals as goal

pub returns : goal.returns
unfolding digits
returns c = record { calls_that_may = refl; statements_that_may = refl }
