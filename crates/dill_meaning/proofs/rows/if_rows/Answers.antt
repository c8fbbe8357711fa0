use Rattle.std.proofs.Common.{refl}
use Rattle.std.specs.Fmt.{digits}
use Rattle.dill_meaning.proofs.rows.if_rows.Goals as goal

pub returns : goal.returns
unfolding digits
returns c = record { yes = refl; otherwise = refl; without_else = refl; bytes = refl; errnos = refl; other_errno = refl }
