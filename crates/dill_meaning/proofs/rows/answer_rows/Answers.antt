use Rattle.std.proofs.Common.{refl}
use Rattle.std.specs.Fmt.{digits}
use Rattle.dill_meaning.proofs.rows.answer_rows.Goals as goal

pub returns : goal.returns
unfolding digits
returns c = record { pair = refl; bytes = refl; chosen = refl; chosen_fault = refl; chosen_untried = refl; fault_puts_nothing = refl }
