use Rattle.std.proofs.Common.{refl}
use Rattle.std.specs.Fmt.{digits}
use Rattle.dill_meaning.proofs.rows.fault_rows.Goals as goal

pub returns : goal.returns
unfolding digits
returns c = record { untried = refl; in_finally = refl; fallen_into = refl; returned = refl; returned_then_fault = refl; failed = refl; err_stays = refl; cancelled_twice = refl }
