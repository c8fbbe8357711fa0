use Rattle.std.proofs.Common.{refl}
use Rattle.std.specs.Fmt.{digits}
use Rattle.dill_meaning.proofs.rows.number_rows.Goals as goal

pub returns : goal.returns
unfolding digits
returns c = record { sums = refl; up_to_the_greatest = refl; greater_before = refl; moments = refl }
