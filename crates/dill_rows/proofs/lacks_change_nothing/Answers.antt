use Rattle.std.proofs.Common.{refl}
use Rattle.std.specs.Fmt.{digits}
use Rattle.dill_rows.proofs.lacks_change_nothing.Goals as goal

pub returns : goal.returns
unfolding digits
returns c = record { entry = refl; number = refl; build = refl; print = refl; answer = refl; may = refl; may_not = refl; may_build = refl; may_nothing = refl }
