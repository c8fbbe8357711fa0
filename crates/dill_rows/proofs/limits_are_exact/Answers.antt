use Rattle.std.proofs.Common.{refl}
use Rattle.std.specs.Fmt.{digits}
use Rattle.dill_rows.proofs.limits_are_exact.Goals as goal

pub returns : goal.returns
unfolding digits
returns c = record { room = refl; no_room = refl; two = refl; number = refl; no_number = refl; link = refl; no_link = refl; no_link_number = refl }
